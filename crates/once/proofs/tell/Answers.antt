-- `tell` meets its contract: the list has a place for each record that is counted.
use Prim.Native.Nat.{◌≤◌}
use native.Mathlib.Omega.{arith}
use lib.ListN.{length}
use Rattle.std.proofs.Common.{length-take-le}
use Rattle.listing.proofs.Within.{count_within}
use Rattle.once.proofs.tell.Goals as goal

pub slice_bounds-list-end : goal.slice_bounds-list-end
slice_bounds-list-end g c = omega (arith, count_within _ _ _ c.fill.ensures.0, c.fill.type_inv)

pub slice_bounds-tell_objects-end : goal.slice_bounds-tell_objects-end
slice_bounds-tell_objects-end g c =
    let k : c.fill.result.walked.count ≤ length c.fill.result.list = omega (arith, count_within _ _ _ c.fill.ensures.0, c.fill.type_inv) in
    omega (arith, length-take-le c.fill.result.walked.count c.fill.result.list k)
