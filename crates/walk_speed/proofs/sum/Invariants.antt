-- `sum` meets its contract.
use Prim.Native.Nat.{◌+◌, ◌-◌, ◌*◌, ◌^◌, ◌≤◌}
use mathlib.Core.Path.{◌≡◌}
use Rattle.walk_speed.specs.Sums.{sum_of}
use Rattle.walk_speed.proofs.sum.Given as goal

abbrev pub invariant-loop : goal.invariant-loop
invariant-loop l =
    (l.total + sum_of (l.turns - l.counter) l.s l.source l.cut ≡ sum_of l.turns l.fn.begun l.source l.cut) × (l.total ≤ l.counter * 2 ^ 32)
