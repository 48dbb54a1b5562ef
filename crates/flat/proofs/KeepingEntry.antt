-- A byte of an entry keeps fitness.
use Prim.Native.Nat.{ℕ, ◌+◌, ◌-◌, ◌/◌, ◌%◌, ◌^◌, ◌≤◌, ◌<◌}
use mathlib.Core.Bool.{Bool, true, false, ◌&&◌, not}
use mathlib.Core.Option.{Option, none, some}
use mathlib.Core.Path.{◌≡◌, refl, ◌∙◌}
use native.Mathlib.Omega.{arith}
use lib.Dec.{ltb, leb, eqb}
use borrow.Author.Tests.{ltb-true, leb-true, not-true}
use Rattle.streaming.specs.State.{with_map, at_entry}
use Rattle.streaming.specs.declared.FlatWalker.{FlatWalker}
use Rattle.streaming.specs.declared.Fed.{Fed}
use Rattle.streaming.proofs.Choose.{in_both, and_left, and_right}
use Rattle.chunk.specs.Fit.{in_chunk}
use Rattle.entry.specs.Entry.{at_last, moved_by, settle_location, settle_handle, more_groups, settle_group, feed_entry}
use Rattle.entry.specs.Fit.{fit_entry, at_byte, FitEntry}
use Rattle.entry.proofs.Fitness.{fit_entry_shows}
use Rattle.flat.specs.Fit.{fit_at}
use Rattle.flat.proofs.Keeping.{Keeps, Taken, keeps_failing, keeps_at, below, made}
use Rattle.flat.proofs.KeepingVisit.{Led, keeps_enter_object}

-- a moved location is at most 2^63 - 1
abbrev Near : Option ℕ → Type 0
Near none = Unit {0}
Near (some location) = location ≤ 2 ^ 63 - 1

moved-near : (back : Bool) (location value : ℕ) → location < 2 ^ 63 → Near (moved_by back location value)
unfolding moved_by
moved-near back location value near =
    in_both Near back
    (λ e. in_both Near (leb value location) (λ k. omega arith) (λ k. tt))
    (λ e. in_both Near (ltb (location + value) (2 ^ 63)) (λ k. omega (arith, ltb-true (location + value) (2 ^ 63) k)) (λ k. tt))

module _ (s : FlatWalker) (taken : Taken s) (own : (t : FlatWalker) → fit_at s.stage t ≡ fit_entry t) (fit : fit_entry s ≡ true) where
  shows : FitEntry s
  shows = fit_entry_shows s fit

  in_its_chunk : in_chunk s.header s.map ≡ true
  unfolding fit_entry at_byte
  in_its_chunk = search (and_left, and_right)

  -- the next byte
  moved : (handle mc shift field : ℕ) → s.map.at + 1 < s.map.chunk + s.map.len → field ≤ 1 → shift ≤ 63 → shift % 7 ≡ 0
      → fit_entry (with_map s (at_entry s.map.chunk s.map.len (s.map.at + 1) handle s.map.loc mc shift field)) ≡ true
  unfolding fit_entry at_byte in_chunk
  moved handle mc shift field high one most sevens =
      let chunk = in_its_chunk in
      let low : s.map.chunk + 2 ≤ s.map.at + 1 = omega (arith, shows.low) in
      let near : s.map.loc ≤ 2 ^ 63 - 1 = omega (arith, shows.near) in
      search made

  stays : (handle mc shift field : ℕ) → at_last s.map ≡ false → field ≤ 1 → shift ≤ 63 → shift % 7 ≡ 0
      → Keeps (with_map s (at_entry s.map.chunk s.map.len (s.map.at + 1) handle s.map.loc mc shift field))
  stays handle mc shift field e one most sevens =
      let inside = shows.high in
      keeps_at (with_map s (at_entry s.map.chunk s.map.len (s.map.at + 1) handle s.map.loc mc shift field)) taken
      (own _ ∙ moved handle mc shift field (below (s.map.at + 1) (s.map.chunk + s.map.len) (omega arith) e) one most sevens)

  led : (location : ℕ) → location ≤ 2 ^ 63 - 1
      → Led s.header (at_entry s.map.chunk s.map.len (s.map.at + 1) s.map.handle location 0 0 0) location
  unfolding in_chunk
  led location near =
      record {
        chunk = in_its_chunk;
        low = omega (arith, shows.low);
        high = omega (arith, shows.high);
        field = refl;
        shift = refl;
        mc = refl;
        located = refl;
        near = near;
      }

  at_location : (l : Option ℕ) → Near l → Keeps (settle_location s l).state
  unfolding settle_location
  at_location none near = keeps_failing s _
  at_location (some location) near = keeps_enter_object _ location taken (led location near)

  at_handle : (value : ℕ) → Keeps (settle_handle s value).state
  unfolding settle_handle
  at_handle value =
      in_both (λ (r : Fed). Keeps r.state) (ltb (s.map.handle + value) (2 ^ 64) && not (at_last s.map))
      (λ e. stays (s.map.handle + value) 0 0 1 (not-true _ (and_right (ltb (s.map.handle + value) (2 ^ 64)) _ e)) (omega arith) (omega arith) refl)
      (λ e. keeps_failing s _)

  at_more : (value : ℕ) → s.map.shift ≤ 56 → Keeps (more_groups s value).state
  unfolding more_groups
  at_more value few =
      let sevens = shows.sevens in
      in_both (λ (r : Fed). Keeps r.state) (at_last s.map)
      (λ e. keeps_failing s _)
      (λ e. stays s.map.handle value (s.map.shift + 7) s.map.field e shows.field (omega arith) (omega arith))

  at_group : (byte value : ℕ) → s.map.shift ≤ 56 → Keeps (settle_group s byte value).state
  unfolding settle_group
  at_group byte value few =
      in_both (λ (r : Fed). Keeps r.state) (ltb byte 0x80)
      (λ e. in_both (λ (r : Fed). Keeps r.state) (eqb s.map.field 0)
      (λ k. at_handle value)
      (λ k. at_location _ (moved-near (eqb (byte / 0x40 % 2) 1) s.map.loc value shows.near)))
      (λ e. at_more value few)

  pub keeps_entry : (byte : ℕ) → Keeps (feed_entry s byte).state
  unfolding feed_entry
  keeps_entry byte =
      in_both (λ (r : Fed). Keeps r.state) (leb s.map.shift 56)
      (λ e. at_group byte _ (leb-true _ _ e))
      (λ e. keeps_failing s _)
