use Rattle.std.proofs.Common.{length}
use Rattle.crc_replay.proofs.is_operations.Given as goal

abbrev pub decreases-loop-behind : goal.decreases-loop-behind
decreases-loop-behind l = length l.rest
