-- `settle_object_size` meets its contract.
use Prim.Native.Nat.{◌<◌}
use native.Mathlib.Omega.{arith}
use borrow.Author.Tests.{lt-ltb, le-ltb}
use Rattle.streaming.specs.Choose.{when◌then◌else◌}
use Rattle.object.specs.Object.{settle_object_size}
use Rattle.object.proofs.Object.settle_object_size.Goals as goal

pub returns-then-size-eq0 : goal.returns-then-size-eq0
unfolding settle_object_size when◌then◌else◌
returns-then-size-eq0 c = rw (le-ltb 0 c.args.size (omega arith)) c.fell.ensures

pub returns-then-may_end : goal.returns-then-may_end
unfolding settle_object_size when◌then◌else◌
returns-then-may_end c =
    let some : 0 < c.args.size = omega arith in
    rw (lt-ltb _ _ some, ← c.may_end.ensures, c.if-may_end.true)
    (rw c.with_object-t.ensures at c.go_on.ensures)

pub returns : goal.returns
unfolding settle_object_size when◌then◌else◌
returns c =
    let some : 0 < c.args.size = omega arith in
    rw (lt-ltb _ _ some, ← c.may_end.ensures, c.if-may_end.false) c.fell-2.ensures
