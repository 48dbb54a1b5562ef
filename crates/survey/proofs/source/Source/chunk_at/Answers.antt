-- `chunk_at` meets its contract.
use Prim.Native.Nat.{◌+◌, ◌≤◌}
use mathlib.Core.Bool.{true}
use mathlib.Core.Path.{◌≡◌, sym, ap, ◌∙◌}
use native.Mathlib.Omega.{arith}
use Rattle.rules.specs.Header.{map_end}
use Rattle.rules.specs.Map.{chunk_size, chunk_computed, chunk_stored, chunk_fits}
use Rattle.rules.specs.PlainList.{stop}
use Rattle.rules.proofs.Map.{fits_low, fits_end}
use Rattle.survey.proofs.Inside.{map_inside}
use Rattle.survey.proofs.InMap.{past_end, unfit, other_sum, with_entries, ends-map, ends-early}
use Rattle.survey.proofs.source.Source.chunk_at.Goals as goal

pub returns-then-end-chunk-clause-goes : goal.returns-then-end-chunk-clause-goes
returns-then-end-chunk-clause-goes c =
    λ rest. past_end c.args.self.now.header c.args.self.now.bytes.now c.args.chunk rest (omega (arith, c.map_end-end.ensures.0)) ∙ ap stop (sym c.broken-misplaced.ensures)

pub be16_at-size-requires : goal.be16_at-size-requires
be16_at-size-requires c = omega (arith, c.map_end-end.ensures.0, map_inside _ _ c.args.self.now.whole)

pub returns-then-not-size-chunk-clause-goes : goal.returns-then-not-size-chunk-clause-goes
unfolding chunk_size chunk_fits
returns-then-not-size-chunk-clause-goes c =
    λ rest. unfit c.args.self.now.header c.args.self.now.bytes.now c.args.chunk rest (omega (arith, c.map_end-end.ensures.0)) _ c.be16_at-size.ensures
    (rw (← c.map_end-end.ensures.0) c.if-not-size-chunk.true) ∙ ap stop (sym c.broken-misplaced.ensures)

pub sum_at-computed-requires : goal.sum_at-computed-requires
unfolding chunk_fits
sum_at-computed-requires c =
    let fits : chunk_fits c.args.self.now.header c.args.chunk c.be16_at-size.result ≡ true = rw (← c.map_end-end.ensures.0) c.if-not-size-chunk.false in
    omega (arith, fits_end c.args.self.now.header c.args.chunk c.be16_at-size.result fits, map_inside _ _ c.args.self.now.whole)

pub be16_at-stored-requires : goal.be16_at-stored-requires
unfolding chunk_fits
be16_at-stored-requires c =
    let fits : chunk_fits c.args.self.now.header c.args.chunk c.be16_at-size.result ≡ true = rw (← c.map_end-end.ensures.0) c.if-not-size-chunk.false in
    omega (arith, fits_end c.args.self.now.header c.args.chunk c.be16_at-size.result fits, map_inside _ _ c.args.self.now.whole)

pub returns-then-stored-computed-clause-goes : goal.returns-then-stored-computed-clause-goes
unfolding chunk_size chunk_computed chunk_stored chunk_fits
returns-then-stored-computed-clause-goes c =
    let near : c.args.chunk + 4 ≤ map_end c.args.self.now.header = omega (arith, c.map_end-end.ensures.0) in
    let fits : chunk_fits c.args.self.now.header c.args.chunk c.be16_at-size.result ≡ true = rw (← c.map_end-end.ensures.0) c.if-not-size-chunk.false in
    λ rest. other_sum c.args.self.now.header c.args.self.now.bytes.now c.args.chunk rest near _ c.be16_at-size.ensures fits
    _ _ c.sum_at-computed.ensures c.be16_at-stored.ensures c.if-stored-computed.true ∙ ap stop (sym c.broken.ensures)

pub returns-then-size-ne2-clause-goes : goal.returns-then-size-ne2-clause-goes
unfolding chunk_size chunk_computed chunk_stored chunk_fits
returns-then-size-ne2-clause-goes c =
    let near : c.args.chunk + 4 ≤ map_end c.args.self.now.header = omega (arith, c.map_end-end.ensures.0) in
    let fits : chunk_fits c.args.self.now.header c.args.chunk c.be16_at-size.result ≡ true = rw (← c.map_end-end.ensures.0) c.if-not-size-chunk.false in
    λ rest. with_entries c.args.self.now.header c.args.self.now.bytes.now c.args.chunk rest near _ c.be16_at-size.ensures fits
    _ _ c.sum_at-computed.ensures c.be16_at-stored.ensures c.if-stored-computed.false c.if-size-ne2.true

pub returns-then-size-ne2-clause-fits : goal.returns-then-size-ne2-clause-fits
unfolding chunk_size chunk_fits
returns-then-size-ne2-clause-fits c =
    let fits : chunk_fits c.args.self.now.header c.args.chunk c.be16_at-size.result ≡ true = rw (← c.map_end-end.ensures.0) c.if-not-size-chunk.false in
    let low : 2 ≤ c.be16_at-size.result = fits_low _ _ _ fits in
    record { said = c.be16_at-size.ensures; some = omega (arith, c.if-size-ne2.true); fits = fits_end _ _ _ fits }

pub returns-then-chunk-end-clause-goes : goal.returns-then-chunk-end-clause-goes
unfolding chunk_size chunk_computed chunk_stored chunk_fits
returns-then-chunk-end-clause-goes c =
    let near : c.args.chunk + 4 ≤ map_end c.args.self.now.header = omega (arith, c.map_end-end.ensures.0) in
    let fits : chunk_fits c.args.self.now.header c.args.chunk c.be16_at-size.result ≡ true = rw (← c.map_end-end.ensures.0) c.if-not-size-chunk.false in
    λ rest. ends-map c.args.self.now.header c.args.self.now.bytes.now c.args.chunk rest near _ c.be16_at-size.ensures fits
    _ _ c.sum_at-computed.ensures c.be16_at-stored.ensures c.if-stored-computed.false c.if-size-ne2.false
    (c.if-chunk-end.true ∙ c.map_end-end.ensures.0)

pub returns-clause-goes : goal.returns-clause-goes
unfolding chunk_size chunk_computed chunk_stored chunk_fits
returns-clause-goes c =
    let near : c.args.chunk + 4 ≤ map_end c.args.self.now.header = omega (arith, c.map_end-end.ensures.0) in
    let fits : chunk_fits c.args.self.now.header c.args.chunk c.be16_at-size.result ≡ true = rw (← c.map_end-end.ensures.0) c.if-not-size-chunk.false in
    λ rest. ends-early c.args.self.now.header c.args.self.now.bytes.now c.args.chunk rest near _ c.be16_at-size.ensures fits
    _ _ c.sum_at-computed.ensures c.be16_at-stored.ensures c.if-stored-computed.false c.if-size-ne2.false
    (λ k. c.if-chunk-end.false (k ∙ sym c.map_end-end.ensures.0)) ∙ ap stop (sym c.broken-misplaced.ensures)
