-- `of` meets its contract: the test shows that the chunk lies in the map, which ends below 2^33.
use Prim.Native.Nat.{◌<◌, ◌^◌}
use native.Mathlib.Omega.{arith}
use borrow.Author.Rules.{rules}
use Rattle.rules.specs.Header.{map_end}
use Rattle.header.proofs.Bounds.{map_end_below}
use Rattle.entry.specs.Fit.{FitEntry}
use Rattle.entry.proofs.EntryUnit.of.Goals as goal

pub invariant_of-result : goal.invariant_of-result
invariant_of-result c =
    let fit : FitEntry c.args.s = c.fit_entry.ensures.1 c.if-fit_entry.true in
    let below : map_end c.args.s.header < 2 ^ 33 = search (rules, map_end_below) in
    record { fit = fit; chunk_end = omega (arith, below, fit.chunk.inside) }
