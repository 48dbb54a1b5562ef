use Rattle.std.proofs.Common.{length}
use Rattle.heads_replay.proofs.is_well_formed.Given as goal

abbrev pub decreases-loop-behind : goal.decreases-loop-behind
decreases-loop-behind l = length l.rest
