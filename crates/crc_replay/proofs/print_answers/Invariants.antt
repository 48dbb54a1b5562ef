use Rattle.std.proofs.Common.{length}
use Rattle.crc_replay.proofs.print_answers.Given as goal

abbrev pub decreases-loop-operation : goal.decreases-loop-operation
decreases-loop-operation g l = length l.rest
