-- What the tests of `specs/Fit.antt` show.
use Prim.Native.Nat.{◌+◌, ◌≤◌, ◌<◌}
use mathlib.Core.Bool.{Bool, true}
use mathlib.Core.Path.{◌≡◌}
use native.Mathlib.Omega.{arith}
use lib.Dec.{ltb}
use borrow.Author.Tests.{ltb-true, ltb-false, eqb-true}
use Rattle.streaming.proofs.Cases.{shown}
use Rattle.streaming.proofs.Choose.{in_both}
use Rattle.streaming.specs.declared.FlatHeader.{FlatHeader}
use Rattle.streaming.specs.declared.MapCursor.{MapCursor}
use Rattle.streaming.specs.declared.FlatWalker.{FlatWalker}
use Rattle.rules.specs.Header.{map_start, map_end}
use Rattle.chunk.specs.Fit.{chunk_done, fit_chunk, FitChunk, in_chunk, InChunk}

-- ---- a chunk whose entries are walked

pub in_chunk_shows : (h : FlatHeader) (m : MapCursor) → in_chunk h m ≡ true → InChunk h m
unfolding in_chunk
in_chunk_shows h m e = search shown

-- ---- a chunk

record Parts (s : FlatWalker) : Type 0 where
  low : map_start s.header ≤ s.map.chunk
  room : s.map.chunk + 4 ≤ map_end s.header
  done : chunk_done (map_end s.header) s.map.chunk s.done s.size ≡ true

parts : (s : FlatWalker) → fit_chunk s ≡ true → Parts s
unfolding fit_chunk
parts s e = search shown

pub fit_chunk_shows : (s : FlatWalker) → fit_chunk s ≡ true → FitChunk s
unfolding chunk_done
fit_chunk_shows s e =
    let p = parts s e in
    in_both (λ (t : Bool). t ≡ true → FitChunk s) (ltb s.done 2)
    (λ t k.
    let few : s.done < 2 = ltb-true _ _ t in
    let none : s.size ≡ 0 = eqb-true _ _ k in
    record {
      low = p.low;
      room = p.room;
      early = λ _. none;
      least = λ l. omega arith;
      most = omega arith;
      inside = omega arith;
      within = omega arith;
    })
    (λ t k.
    let many : 2 ≤ s.done = ltb-false _ _ t in
    record {
      low = p.low;
      room = p.room;
      early = λ l. absurd (omega arith);
      least = λ _. search shown;
      most = search shown;
      inside = search shown;
      within = search shown;
    })
    p.done
