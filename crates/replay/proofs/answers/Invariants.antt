-- `answers` meets its contract.
use Rattle.std.proofs.Common.{length}
use Rattle.replay.proofs.answers.Given as goal

abbrev pub decreases-loop-n : goal.decreases-loop-n
decreases-loop-n g l = length l.rest
