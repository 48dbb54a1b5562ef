-- A piece of a chunk keeps fitness.
use Rattle.std.proofs.lemmas.Bool.{and_from}
use Prim.Native.Nat.{ℕ, ◌+◌, ◌-◌, ◌≤◌, ◌<◌}
use mathlib.Core.Bool.{Bool, true, false}
use mathlib.Core.List.{List}
use mathlib.Core.Path.{◌≡◌, refl, ◌∙◌}
use native.Mathlib.Omega.{arith}
use lib.ListN.{length, take}
use lib.Dec.{ltb, leb, eqb}
use borrow.Author.Tests.{ltb-true, ltb-false, eqb-false, lt-ltb, le-ltb, le-leb, eq-eqb}
use Rattle.octets.specs.Octets.{same}
use Rattle.streaming.specs.Choose.{when◌then◌else◌}
use Rattle.streaming.specs.State.{in_unit, with_map, at_entry}
use Rattle.streaming.specs.declared.FlatWalker.{FlatWalker}
use Rattle.streaming.specs.declared.Stage.TheVariants as stage
use Rattle.streaming.specs.declared.Fed.{Fed}
use Rattle.streaming.proofs.Cases.{shown}
use Rattle.streaming.proofs.Choose.{in_both, and_left}
use Rattle.rules.specs.Bytes.{checksum}
use Rattle.rules.specs.Header.{map_start, map_end}
use Rattle.rules.specs.Map.{chunk_fits}
use Rattle.chunk.specs.Chunk.{chunk_at, enter_chunk, request_chunk, chunk_end, settle_chunk_size, settle_chunk, settle_chunk_crc, feed_chunk_size, feed_chunk_entries, feed_chunk_crc, feed_chunk}
use Rattle.chunk.specs.Fit.{no_object, no_entry, chunk_done, fit_chunk, in_chunk, FitChunk}
use Rattle.chunk.proofs.Fitness.{fit_chunk_shows}
use Rattle.entry.specs.Fit.{fit_entry, at_byte}
use Rattle.flat.specs.Fit.{fit_at}
use Rattle.flat.proofs.Keeping.{Keeps, Taken, keeps_failing, keeps_at, below, made}

-- ---- entering one

entered : (s : FlatWalker) (chunk : ℕ) → map_start s.header ≤ chunk → leb (chunk + 4) (map_end s.header) ≡ true → fit_chunk (chunk_at s chunk) ≡ true
unfolding fit_chunk no_object no_entry chunk_done same when◌then◌else◌
entered s chunk low e = and_from _ _ (and_from _ _ (le-leb _ _ low) e) refl

pub keeps_enter_chunk : (s : FlatWalker) (chunk : ℕ) → Taken s → map_start s.header ≤ chunk → Keeps (enter_chunk s chunk)
unfolding enter_chunk
keeps_enter_chunk s chunk taken low =
    in_both Keeps (leb (chunk + 4) (map_end s.header))
    (λ e. keeps_at (chunk_at s chunk) taken (entered s chunk low e))
    (λ e. keeps_failing (chunk_at s chunk) _)

-- ---- in one

module _ (s : FlatWalker) (taken : Taken s) (own : (t : FlatWalker) → fit_at s.stage t ≡ fit_chunk t) (fit : fit_chunk s ≡ true) where
  shows : FitChunk s
  shows = fit_chunk_shows s fit

  moved : (done size crc : ℕ) (field : List ℕ) → chunk_done (map_end s.header) s.map.chunk done size ≡ true
      → fit_chunk (in_unit s s.stage done size crc field) ≡ true
  unfolding fit_chunk no_object
  moved done size crc field e = search (and_from, and_left)

  -- the chunk stays in hand
  stays : (done size crc : ℕ) (field : List ℕ) → chunk_done (map_end s.header) s.map.chunk done size ≡ true
      → Keeps (in_unit s s.stage done size crc field)
  stays done size crc field e = keeps_at (in_unit s s.stage done size crc field) taken (own _ ∙ moved done size crc field e)

  -- before the size is whole
  before : (done : ℕ) → s.done < 2 → done < 2 → chunk_done (map_end s.header) s.map.chunk done s.size ≡ true
  unfolding chunk_done when◌then◌else◌
  before done early k = rw (lt-ltb done 2 k) (eq-eqb _ _ (shows.early early))

  -- behind it
  behind : (done size : ℕ) → 2 ≤ done → 2 ≤ size → size ≤ 2034 → s.map.chunk + size + 2 ≤ map_end s.header → done < size + 2
      → chunk_done (map_end s.header) s.map.chunk done size ≡ true
  unfolding chunk_done when◌then◌else◌
  behind done size two least most inside within = rw (le-ltb done 2 two) (search made)

  -- behind it, as far as a piece leads
  goes : (done : ℕ) → 2 ≤ s.done → s.done ≤ done → done < s.size + 2 → chunk_done (map_end s.header) s.map.chunk done s.size ≡ true
  goes done late k within = behind done s.size (omega arith) (shows.least late) shows.most shows.inside within

  at_size : (field : List ℕ) (size : ℕ) → Keeps (settle_chunk_size s field size).state
  unfolding settle_chunk_size chunk_fits
  at_size field size =
      in_both (λ (r : Fed). Keeps r.state) (chunk_fits s.header s.map.chunk size)
      (λ e. stays 2 size (checksum (take 2 field)) field (behind 2 size (omega arith) (search shown) (search shown) (search shown) (least e)))
      (λ e. keeps_failing s _)
    where
      least : chunk_fits s.header s.map.chunk size ≡ true → 2 < size + 2
      least e = let two : 2 ≤ size = search shown in omega arith

  -- the first entry
  abbrev first : (field : List ℕ) → FlatWalker
  first field =
      with_map (in_unit s stage.Entry (s.size + 2) s.size s.crc field) (at_entry s.map.chunk s.size (s.map.chunk + 2) 0 0 0 0 0)

  at_entry_lem : (field : List ℕ) → 2 ≤ s.size → (s.size ≡ 2 → ⊥) → fit_entry (first field) ≡ true
  unfolding fit_entry at_byte in_chunk
  at_entry_lem field two more =
      let three : 3 ≤ s.size = omega arith in
      let far : s.map.chunk + 2 < s.map.chunk + s.size = omega arith in
      let most = shows.most in
      let low = shows.low in
      let inside = shows.inside in
      search made

  at_end_lem : (field : List ℕ) → 2 ≤ s.done → Keeps (settle_chunk s field).state
  unfolding settle_chunk
  at_end_lem field late =
      in_both (λ (r : Fed). Keeps r.state) (eqb s.size 2)
      (λ e. in_both (λ (r : Fed). Keeps r.state) (eqb (s.map.chunk + 4) (map_end s.header))
      (λ k. keeps_at (in_unit s stage.Done 4 2 s.crc field) taken refl)
      (λ k. keeps_failing s _))
      (λ e. keeps_at _ taken (at_entry_lem field (shows.least late) (eqb-false _ _ e)))

  at_crc : (field : List ℕ) (stored : ℕ) → 2 ≤ s.done → Keeps (settle_chunk_crc s field stored).state
  unfolding settle_chunk_crc
  at_crc field stored late =
      in_both (λ (r : Fed). Keeps r.state) (eqb stored s.crc) (λ e. at_end_lem field late) (λ e. keeps_failing s _)

  module _ (piece : List ℕ) (fits : length piece ≤ (request_chunk s).len) where
    in_size : s.done < 2 → length piece ≤ 2 - s.done → Keeps (feed_chunk_size s piece).state
    unfolding feed_chunk_size
    in_size early most =
        in_both (λ (r : Fed). Keeps r.state) (eqb (s.done + length piece) 2)
        (λ e. at_size _ _)
        (λ e. stays _ _ _ _ (before (s.done + length piece) early (below (s.done + length piece) 2 (omega arith) e)))

    in_entries : 2 ≤ s.done → s.done < s.size → length piece ≤ s.size - s.done → Keeps (feed_chunk_entries s piece).state
    unfolding feed_chunk_entries
    in_entries late inside most = stays _ _ _ _ (goes (s.done + length piece) late (omega arith) (omega arith))

    in_crc : 2 ≤ s.done → length piece ≤ s.size + 2 - s.done → Keeps (feed_chunk_crc s piece).state
    unfolding feed_chunk_crc
    in_crc late most =
        let within = shows.within in
        in_both (λ (r : Fed). Keeps r.state) (eqb (s.done + length piece) (s.size + 2))
        (λ e. at_crc _ _ late)
        (λ e. stays _ _ _ _ (goes (s.done + length piece) late (omega arith) (below (s.done + length piece) (s.size + 2) (omega arith) e)))

    pub keeps_chunk : Keeps (feed_chunk s piece).state
    unfolding feed_chunk request_chunk chunk_end when◌then◌else◌
    keeps_chunk = split (ltb s.done 2) refl (ltb s.done s.size) refl
      where
        split : (a : Bool) → ltb s.done 2 ≡ a → (b : Bool) → ltb s.done s.size ≡ b → Keeps (feed_chunk s piece).state
        split true e b k = rw e (in_size (ltb-true _ _ e) (rw e at fits))
        split false e true k = rw (e, k) (in_entries (ltb-false _ _ e) (ltb-true _ _ k) (rw (e, k) at fits))
        split false e false k = rw (e, k) (in_crc (ltb-false _ _ e) (rw (e, k) at fits))
