-- The Rust's own test of a saved state against fitness: a state that passes it is fit, but for a size that its words can't hold; and a walk reaches
-- states that do not pass it.
use Rattle.std.proofs.lemmas.Bool.{and_from}
use Rattle.std.specs.Prelude.{None}
use Prim.Native.Nat.{◌-◌, ◌^◌, ◌≤◌}
use mathlib.Core.Bool.{true, false}
use mathlib.Core.List.{[], ◌∷◌}
use mathlib.Core.Path.{◌≡◌, refl}
use native.Mathlib.Omega.{arith}
use lib.ListN.{replicate}
use lib.Dec.{leb}
use borrow.Author.Tests.{le-leb}
use Rattle.streaming.specs.Choose.{when◌then◌else◌}
use Rattle.streaming.specs.State.{at_entry}
use Rattle.streaming.specs.declared.Locator.{Locator}
use Rattle.streaming.specs.declared.FlatHeader.{FlatHeader}
use Rattle.streaming.specs.declared.Stage.{Stage}
use Rattle.streaming.specs.declared.Stage.TheVariants as stage
use Rattle.streaming.specs.declared.FlatWalker.{FlatWalker}
use Rattle.streaming.proofs.Cases.{shown}
use Rattle.streaming.proofs.Choose.{and_left, and_right}
use Rattle.rules.specs.Header.{first_of, locator_of, map_end, is_outside, start_refusal}
use Rattle.rules.specs.Object.{may_start, may_end}
use Rattle.chunk.specs.Fit.{in_chunk}
use Rattle.entry.specs.Entry.{request_entry, bits_of, more_groups, settle_group, feed_entry}
use Rattle.entry.specs.Fit.{at_byte, entry_consistent, fit_entry}
use Rattle.object.specs.Fit.{behind_entry, object_done, object_consistent, size_in_words, fit_object}
use Rattle.flat.specs.Fit.{is_taken, fit_at, consistent_at, fit_of, consistent_of}
use Rattle.flat.specs.Flat.{request_of, feed_of}

-- ---- what passes is fit

at_entry_lem : (s : FlatWalker) → entry_consistent s ≡ true → fit_entry s ≡ true
unfolding entry_consistent fit_entry at_byte
at_entry_lem s e =
    let few : s.map.shift ≤ 56 = search shown in
    let wide : leb s.map.shift 63 ≡ true = le-leb s.map.shift 63 (omega arith) in
    search (and_from, and_left, and_right) depth 7

at_stage : (g : Stage) (s : FlatWalker) → consistent_at g s ≡ true → (g ≡ stage.Object → size_in_words s ≡ true) → fit_at g s ≡ true
unfolding fit_object
at_stage stage.Vars s e sized = e
at_stage stage.Classes s e sized = e
at_stage stage.Chunk s e sized = e
at_stage stage.Entry s e sized = at_entry_lem s e
at_stage stage.Object s e sized = and_from _ _ e (sized refl)
at_stage stage.Done s e sized = e

pub consistent_fit : (s : FlatWalker) → consistent_of s ≡ true → (s.stage ≡ stage.Object → size_in_words s ≡ true) → fit_of s ≡ true
unfolding consistent_of fit_of
consistent_fit s e sized =
    let taken : is_taken (start_refusal s.header) ≡ true = search (and_left, and_right) in
    let at : consistent_at s.stage s ≡ true = search (and_left, and_right) in
    and_from _ _ taken (at_stage s.stage s at sized)

-- ---- but for the size of an object: one word, and a size of 2^32 - 1

abbrev nowhere : Locator
nowhere = record { number = 0; offset = 0; size = 0 }

-- of a source of 2^40 bytes, whose map is 20 bytes from 200 on
abbrev wide : FlatHeader
wide =
    record {
      magic = 0x41 ∷ 0x43 ∷ 0x31 ∷ 0x30 ∷ 0x31 ∷ 0x35 ∷ [];
      count = 6;
      locators = nowhere ∷ record { number = 1; offset = 0; size = 0 } ∷ record { number = 2; offset = 200; size = 20 } ∷ nowhere ∷ nowhere ∷ nowhere ∷ [];
      length = 2 ^ 40;
    }

abbrev pub oversized : FlatWalker
oversized =
    record {
      header = wide;
      stage = stage.Object;
      done = 2;
      size = 2 ^ 32 - 1;
      crc = 0;
      field = replicate 4 0;
      head = replicate 16 0;
      object = 1000;
      ms_len = 2;
      words = 1;
      map = at_entry 200 10 204 1 1000 0 0 0;
      failure = None;
    }

pub oversized_consistent : consistent_of oversized ≡ true
unfolding consistent_of start_refusal is_outside locator_of first_of object_consistent in_chunk behind_entry object_done map_end may_start may_end when◌then◌else◌
oversized_consistent = refl

pub oversized_unfit : fit_of oversized ≡ false
unfolding fit_of start_refusal is_outside locator_of first_of fit_object size_in_words object_consistent in_chunk behind_entry object_done map_end may_start may_end
    when◌then◌else◌
oversized_unfit = refl

-- ---- and a walk goes on from a state that passes to one that does not: eight bytes of a delta are behind, and a ninth is continued

abbrev pub eight_bytes : FlatWalker
eight_bytes =
    record {
      header = wide;
      stage = stage.Entry;
      done = 20;
      size = 18;
      crc = 0;
      field = replicate 4 0;
      head = replicate 16 0;
      object = 0;
      ms_len = 0;
      words = 0;
      map = at_entry 200 18 210 0 0 0 56 0;
      failure = None;
    }

abbrev pub nine_bytes : FlatWalker
nine_bytes = (feed_of eight_bytes 210 (0x80 ∷ [])).state

pub eight_consistent : consistent_of eight_bytes ≡ true
unfolding consistent_of start_refusal is_outside locator_of first_of entry_consistent at_byte in_chunk map_end when◌then◌else◌
eight_consistent = refl

pub nine_inconsistent : consistent_of nine_bytes ≡ false
unfolding consistent_of fit_of start_refusal is_outside locator_of first_of entry_consistent fit_entry at_byte in_chunk map_end feed_of request_of request_entry
    feed_entry settle_group more_groups bits_of when◌then◌else◌
nine_inconsistent = refl

pub nine_fit : fit_of nine_bytes ≡ true
unfolding fit_of start_refusal is_outside locator_of first_of fit_entry at_byte in_chunk map_end feed_of request_of request_entry feed_entry settle_group more_groups
    bits_of when◌then◌else◌
nine_fit = refl
