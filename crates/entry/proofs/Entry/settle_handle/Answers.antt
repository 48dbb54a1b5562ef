-- `settle_handle` meets its contract.
use Prim.Native.Nat.{◌+◌, ◌^◌, ◌≤◌}
use native.Mathlib.Omega.{arith}
use borrow.Author.Tests.{le-ltb, lt-ltb}
use Rattle.streaming.specs.Choose.{when◌then◌else◌}
use Rattle.entry.specs.Entry.{settle_handle}
use Rattle.entry.proofs.Entry.settle_handle.Goals as goal

pub returns-in_default : goal.returns-in_default
unfolding settle_handle when◌then◌else◌
returns-in_default c =
    let past : 2 ^ 64 ≤ c.args.self.walker.map.handle + c.args.value = omega (arith, c.in_default.ensures) in
    rw (le-ltb _ _ past) c.refused.ensures

pub returns-then-at_last : goal.returns-then-at_last
unfolding settle_handle when◌then◌else◌
returns-then-at_last c =
    rw (lt-ltb _ _ c.in-Some.ensures.0, ← c.at_last.ensures, c.if-at_last.true) c.refused-then-at_last.ensures

pub returns : goal.returns
unfolding settle_handle when◌then◌else◌
returns c =
    rw (lt-ltb _ _ c.in-Some.ensures.0, ← c.at_last.ensures, c.if-at_last.false, ← c.in-Some.ensures.1) c.stepped.ensures
