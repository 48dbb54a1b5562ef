-- `walk_map` meets its contract: the objects so far, and what the rest of the map gives, are what all of it gives.
use Prim.Native.Nat.{ℕ, ◌+◌}
use mathlib.Core.Path.{◌≡◌, sym, ap, ◌∙◌}
use native.Mathlib.Omega.{arith}
use Rattle.streaming.specs.Answers.{Asked}
use Rattle.rules.specs.Map.{chunk_size}
use Rattle.rules.specs.PlainList.{Listing, stop}
use Rattle.survey.specs.Counting.{counted, more, chunks_on, entries_on}
use Rattle.survey.proofs.Inside.{map_inside}
use Rattle.survey.proofs.Onward.{chunks_begin, chunks_on_lem, chunk-entered, entries_end, stopped}
use Rattle.survey.proofs.source.Source.walk_map.Goals as goal
use Rattle.survey.proofs.source.Source.walk_map.Goals.{in-Err, in-Ok+then-loop-c-test+in-Err-next_of}

pub loop-c-init : goal.loop-c-init
loop-c-init c =
    let entered : chunks_on c.args.self.now.header c.args.self.now.bytes.now c.map.chunk
    ≡ entries_on c.args.self.now.header c.args.self.now.bytes.now (c.map.chunk + c.in-Ok.size) (record { at = c.map.chunk + 2; last = record { handle = 0; location = 0 } })
    (chunks_on c.args.self.now.header c.args.self.now.bytes.now (c.map.chunk + c.in-Ok.size + 2))
    = chunk-entered c.args.self.now.header c.args.self.now.bytes.now c.map.chunk c.in-Ok.size c.in-Ok.ensures.fits (map_inside _ _ c.args.self.now.whole) c.in-Ok.ensures.goes in (
      omega (arith, c.map.invariant.0),
      omega (arith, c.in-Ok.ensures.fits.some),
      ap (λ (l : Listing). more c.map.count (counted l)) (sym entered) ∙ c.map.invariant.2,
    )

pub next_of-requires : goal.next_of-requires
next_of-requires c =
    (c.loop-c-test.true, omega (arith, c.in-Ok.ensures.fits.fits, map_inside _ _ c.args.self.now.whole))

pub map-preserved : goal.map-preserved
map-preserved c = (
  omega (arith, c.loop-c.invariant.0, c.loop-c.invariant.1),
  omega (arith, c.in-Ok.ensures.near),
  ap (λ (k : Listing). more c.loop-c.count (counted k)) (sym (entries_end c.args.self.now.header c.args.self.now.bytes.now _ c.loop-c.c _ c.loop-c-test.false)) ∙ c.loop-c.invariant.2,
)

pub returns : goal.returns
returns c =
    let total = sym (ap counted (chunks_begin c.args.self.now.header c.args.self.now.bytes.now)) in
    elim c.match-chunk_at.branch [
      | in-Err w ↦
          let rest = chunks_on c.args.self.now.header c.args.self.now.bytes.now (c.map.chunk + chunk_size c.args.self.now.bytes.now c.map.chunk + 2) in
          stopped c.match-chunk_at.count c.match-chunk_at.ending _ (counted (chunks_on c.args.self.now.header c.args.self.now.bytes.now c.map.chunk)) _ c.ended_by.ensures
          (ap counted (chunks_on_lem c.args.self.now.header c.args.self.now.bytes.now c.map.chunk ∙ w.in-Err.ensures.goes rest ∙ ap stop (sym w.ending-is)))
          (ap (λ (n : ℕ). more n (counted (chunks_on c.args.self.now.header c.args.self.now.bytes.now c.map.chunk))) w.count-is ∙ c.map.invariant.2 ∙ total)
      | in-Ok+then-loop-c-test+in-Err-next_of w ↦
          let end = c.map.chunk + w.in-Ok.size in
          let rest = chunks_on c.args.self.now.header c.args.self.now.bytes.now (end + 2) in
          stopped c.match-chunk_at.count c.match-chunk_at.ending _ (counted (entries_on c.args.self.now.header c.args.self.now.bytes.now end w.loop-c.c rest)) _ c.ended_by.ensures
          (w.in-Err-next_of.ensures.goes rest ∙ ap (λ (q : Asked). counted (stop q)) (sym w.ending-is))
          (ap (λ (n : ℕ). more n (counted (entries_on c.args.self.now.header c.args.self.now.bytes.now end w.loop-c.c rest))) w.count-is ∙ w.loop-c.invariant.2 ∙ total)
    ]
