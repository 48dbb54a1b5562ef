-- `walk` meets its contract. The invariant: the state in hand is that of the driver's calls so far over this source, whose tally is kept. The measure:
-- the bytes that the rules still allow.
use Prim.Native.Nat.{◌-◌}
use Rattle.driving.specs.Ran.{most_bytes, Ran}
use Rattle.driving.proofs.Chosen.{Turning}
use Rattle.driving.proofs.walk.Given as goal

abbrev pub invariant-loop-piece : goal.invariant-loop-piece
invariant-loop-piece g l = Ran l.h l.source l.cuts l.turn l.state l.tally × Turning l.cuts l.turn

abbrev pub decreases-loop-piece : goal.decreases-loop-piece
decreases-loop-piece g l = most_bytes l.h - l.tally.bytes
