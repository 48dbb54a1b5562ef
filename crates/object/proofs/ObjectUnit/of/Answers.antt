-- `of` meets its contract: the test shows how short the object is, and that the chunk lies in the map, which ends below 2^33.
use Prim.Native.Nat.{◌<◌, ◌^◌}
use native.Mathlib.Omega.{arith}
use borrow.Author.Rules.{rules}
use Rattle.rules.specs.Header.{map_end}
use Rattle.header.proofs.Bounds.{map_end_below}
use Rattle.object.specs.Fit.{FitObject}
use Rattle.object.proofs.Demand.{span_small}
use Rattle.object.proofs.ObjectUnit.of.Goals as goal

pub invariant_of-result : goal.invariant_of-result
invariant_of-result c =
    let fit : FitObject c.args.s = c.fit_object.ensures.1 c.if-fit_object.true in
    let below : map_end c.args.s.header < 2 ^ 33 = search (rules, map_end_below) in
    record { fit = fit; span = span_small c.args.s fit; chunk_end = omega (arith, below, fit.chunk.inside) }
