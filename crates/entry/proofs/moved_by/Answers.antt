-- `moved_by` meets its contract: a sum past 2^64 lies past 2^63 too.
use Prim.Native.Nat.{◌+◌, ◌^◌, ◌<◌, ◌≤◌}
use native.Mathlib.Omega.{arith}
use borrow.Author.Tests.{lt-ltb, le-ltb}
use Rattle.streaming.specs.Choose.{when◌then◌else◌}
use Rattle.entry.specs.Entry.{moved_by}
use Rattle.entry.proofs.Moves.{moved_back}
use Rattle.entry.proofs.moved_by.Goals as goal

pub returns-then-back : goal.returns-then-back
returns-then-back c = rw c.if-back.true (moved_back _ _ _ c.checked_sub.ensures)

pub returns-in_err-to : goal.returns-in_err-to
unfolding moved_by when◌then◌else◌
returns-in_err-to c =
    let far : 2 ^ 63 ≤ c.args.location + c.args.value = omega (arith, c.in_err-to.ensures) in
    rw (c.if-back.false, le-ltb _ _ far) c.from_residual.ensures

pub returns-then-to-gt-FARTHEST : goal.returns-then-to-gt-FARTHEST
unfolding moved_by when◌then◌else◌
returns-then-to-gt-FARTHEST c =
    let far : 2 ^ 63 ≤ c.args.location + c.args.value = omega (arith, c.in_ok-to.ensures.1) in
    rw (c.if-back.false, le-ltb _ _ far)

pub returns : goal.returns
unfolding moved_by when◌then◌else◌
returns c =
    let near : c.args.location + c.args.value < 2 ^ 63 = omega (arith, c.in_ok-to.ensures.1) in
    rw (c.if-back.false, lt-ltb _ _ near, c.in_ok-to.ensures.1)
