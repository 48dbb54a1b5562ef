use Rattle.std.proofs.Common.{length}
use Rattle.heads_replay.proofs.answer_all.Given as goal

abbrev pub decreases-loop-operation : goal.decreases-loop-operation
decreases-loop-operation g l = length l.rest
