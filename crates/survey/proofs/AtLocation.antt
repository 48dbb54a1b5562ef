-- Laws of an object that is looked at field by field: where the first fault is, or the source ends, the walk ends there.
use Rattle.std.specs.Prelude.{Result, Ok, Err, MatchResult, IsErrAnd}
use Prim.Native.Nat.{ℕ, ◌+◌, ◌*◌, ◌-◌, ◌%◌, min, ◌<◌, ◌≤◌}
use mathlib.Core.Bool.{true, false}
use mathlib.Core.List.{List}
use mathlib.Core.Path.{◌≡◌, ◌∙◌}
use native.Mathlib.Omega.{arith}
use lib.ListN.{length, drop}
use lib.Seq.{take-take}
use borrow.Author.Tests.{lt-ltb, le-ltb, eq-eqb, ne_eqb}
use Rattle.streaming.specs.Choose.{when◌then◌else◌}
use Rattle.streaming.specs.declared.FlatHeader.{FlatHeader}
use Rattle.streaming.specs.declared.ObjectRecord.{ObjectRecord}
use Rattle.streaming.specs.declared.Fault.{Fault}
use Rattle.streaming.specs.declared.Fault.TheVariants as fault
use Rattle.streaming.specs.Answers.{Asked}
use Rattle.object.specs.Object.{verdict_of}
use Rattle.survey.specs.Goes.{object_goes}
use Rattle.account.specs.Statement.{part}
use Rattle.account.specs.Account.{demand, broken}
use Rattle.account.proofs.Parts.{part-drop}
use Rattle.octets.specs.Octets.{little_endian}
use Rattle.rules.specs.Header.{is_r2000}
use Rattle.rules.specs.Prologue.{prologue_of}
use Rattle.rules.specs.Object.{sized, size_of_words, size_at, may_start, may_end, object_computed, object_stored, Verdict, fails, named, verdict}
use Rattle.survey.proofs.Places.{take_min}
use Rattle.rules.specs.PlainList.{Listing, stop, require, verdict_then, sized_then, lacks_second_word, object_then}

-- ---- its place and its size words

module _ (h : FlatHeader) (src : List ℕ) (handle location : ℕ) (rest : Listing) where
  abbrev goes : Listing
  goes = object_then h src handle location rest

  pub no_start : may_start h location ≡ false → goes ≡ stop (broken (fault.ObjectRange handle location))
  unfolding object_then require
  no_start m = rw m

  module _ (m : may_start h location ≡ true) (word : ℕ) (w : word ≡ little_endian (part src location 2)) where
    -- the size by its words
    words : size_at src location ≡ size_of_words word (little_endian (drop 2 (part src location 4)))
    unfolding size_at
    words = rw (take-take 2 4 (drop location src) (omega arith), w)

    pub one_word : word < 0x8000 → goes ≡ sized_then h src handle location (sized 2 word) rest
    unfolding object_then require lacks_second_word size_of_words when◌then◌else◌
    one_word l = rw (m, words, ← w, lt-ltb word 0x8000 l)

    module _ (o : 0x8000 ≤ word) where
      pub stalls : h.length < location + 4 → goes ≡ stop (demand h.length (location + 4 - h.length))
      unfolding object_then require lacks_second_word when◌then◌else◌
      stalls l = rw (m, ← w, le-ltb word 0x8000 o, lt-ltb h.length (location + 4) l)

      module _ (i : location + 4 ≤ h.length) (n : length src ≡ h.length) (second : ℕ) (s : second ≡ little_endian (part src (location + 2) 2)) where
        both_words : size_at src location ≡ size_of_words word second
        both_words = words ∙ rw (part-drop src location 2 4 (omega arith) (omega arith), s)

        pub endless : 0x8000 ≤ second → goes ≡ stop (broken (fault.ObjectSize handle))
        unfolding object_then require lacks_second_word sized_then size_of_words when◌then◌else◌
        endless l = rw (m, both_words, ← w, le-ltb word 0x8000 o, le-ltb h.length (location + 4) i, le-ltb second 0x8000 l)

        pub two_words_lem : second < 0x8000 → goes ≡ sized_then h src handle location (sized 4 (word % 0x8000 + 0x8000 * second)) rest
        unfolding object_then require lacks_second_word size_of_words when◌then◌else◌
        two_words_lem l = rw (m, both_words, ← w, le-ltb word 0x8000 o, le-ltb h.length (location + 4) i, lt-ltb second 0x8000 l)

-- ---- its end

module _ (h : FlatHeader) (src : List ℕ) (handle location field size : ℕ) (rest : Listing) where
  abbrev goes_sized : Listing
  goes_sized = sized_then h src handle location (sized field size) rest

  pub no_size : size ≡ 0 → goes_sized ≡ stop (broken (fault.ObjectSize handle))
  unfolding sized_then require
  no_size e = rw e

  module _ (s : 0 < size) where
    pub no_end : may_end h location (location + field + size + 2) ≡ false → goes_sized ≡ stop (broken (fault.ObjectRange handle location))
    unfolding sized_then require
    no_end m = rw (lt-ltb 0 size s, m)

    pub judged : may_end h location (location + field + size + 2) ≡ true → (v : Verdict) → v ≡ verdict h src handle location field size
        → goes_sized ≡ verdict_then v rest
    unfolding sized_then require
    judged m v e = rw (lt-ltb 0 size s, m, e)

-- ---- its checksum and its prologue

module _ (h : FlatHeader) (src : List ℕ) (handle location field size : ℕ) (computed stored : ℕ)
    (c : computed ≡ object_computed src location field size) (d : stored ≡ object_stored src location field size) where
  pub other_crc : (stored ≡ computed → ⊥) → fails (fault.ObjectCrc handle computed stored) ≡ verdict h src handle location field size
  unfolding verdict when◌then◌else◌
  other_crc k = rw (← c, ← d, ne_eqb stored computed k)

  -- of the data's bytes 16 at most are looked at
  pub by_prologue : stored ≡ computed
      → verdict h src handle location field size ≡ named handle location size (prologue_of (is_r2000 h) (part src (location + field) (min size 16)))
  unfolding verdict when◌then◌else◌
  by_prologue k = rw (← c, ← d, eq-eqb stored computed k, take_min 16 size (drop (location + field) src))

-- what was found out goes on as the walk does
pub verdict_goes : (r : Result ObjectRecord Fault) (q : Result ObjectRecord Asked) (rest : Listing)
    → MatchResult r (λ o. q ≡ Ok o) (λ f. IsErrAnd q (λ a. a ≡ broken f)) → verdict_then (verdict_of r) rest ≡ object_goes q rest
unfolding verdict_then
verdict_goes (Ok o) q rest e = rw e
verdict_goes (Err f) (Ok x) rest e = absurd e
verdict_goes (Err f) (Err a) rest e = rw e
