-- `whole` meets its contract.
use Rattle.std.proofs.Common.{length}
use Rattle.replay.proofs.Whole.{Left}
use Rattle.replay.proofs.operations.whole.Given as goal

abbrev pub invariant-loop-n : goal.invariant-loop-n
invariant-loop-n l = Left l.s l.rest

abbrev pub decreases-loop-n : goal.decreases-loop-n
decreases-loop-n l = length l.rest
