-- A piece of an object keeps fitness.
use Rattle.std.proofs.lemmas.Bool.{and_from}
use Prim.Native.Nat.{ℕ, zero, suc, ◌+◌, ◌*◌, ◌-◌, ◌%◌, ◌^◌, ◌≤◌, ◌<◌}
use mathlib.Core.Bool.{Bool, true, false}
use mathlib.Core.List.{List}
use mathlib.Core.Path.{◌≡◌, refl, ◌∙◌}
use native.Mathlib.Omega.{arith}
use lib.ListN.{length}
use lib.Seq.{sets}
use lib.Dec.{ltb, eqb}
use lib.Bits.{bit_or, or_lt}
use borrow.Author.Tests.{ltb-true, eqb-true, eqb-false, lt-ltb, ne_eqb}
use Rattle.crc.specs.Crc.{crc_of}
use Rattle.streaming.specs.Choose.{when◌then◌else◌}
use Rattle.streaming.specs.State.{in_unit, with_object}
use Rattle.streaming.specs.declared.FlatWalker.{FlatWalker}
use Rattle.streaming.specs.declared.Fed.{Fed}
use Rattle.streaming.proofs.Choose.{in_both, and_left, and_right}
use Rattle.rules.specs.Object.{is_last, may_end, Verdict, holds, fails}
use Rattle.chunk.specs.Fit.{in_chunk}
use Rattle.object.specs.Object.{object_end, request_object, settle_object_size, settle_word, settle_verdict, settle_object_crc, feed_word, feed_object_data, feed_object_crc, feed_object}
use Rattle.object.specs.Fit.{behind_entry, object_done, object_consistent, size_in_words, fit_object, FitObject}
use Rattle.flat.specs.Fit.{fit_at}
use Rattle.object.proofs.Fitness.{fit_object_shows}
use Rattle.flat.proofs.Keeping.{Keeps, Taken, keeps_failing, keeps_at, below, made}
use Rattle.flat.proofs.KeepingVisit.{Led, keeps_leave_object}

-- one word more of the size
word_fits : (size word words : ℕ) → words ≤ 1 → size < 2 ^ (15 * words) → bit_or size (word % 0x8000 * 2 ^ (15 * words)) < 2 ^ (15 * (words + 1))
word_fits size word zero few h = or_lt 15 size _ (omega arith) (omega arith)
word_fits size word (suc zero) few h = or_lt 30 size _ (omega arith) (omega arith)
word_fits size word (suc (suc n)) few h = absurd (omega arith)

in_its_chunk : (s : FlatWalker) → fit_object s ≡ true → in_chunk s.header s.map ≡ true
unfolding fit_object object_consistent
in_its_chunk s e = search (and_left, and_right)

module _ (s : FlatWalker) (taken : Taken s) (own : (t : FlatWalker) → fit_at s.stage t ≡ fit_object t) (fit : fit_object s ≡ true) where
  shows : FitObject s
  shows = fit_object_shows s fit

  -- the state with another place in the object
  abbrev placed : (done size crc : ℕ) (field head : List ℕ) (ms_len words : ℕ) → FlatWalker
  placed done size crc field head ms_len words = with_object (in_unit s s.stage done size crc field) head s.object ms_len words

  moved : (done size crc : ℕ) (field head : List ℕ) (ms_len words : ℕ) → object_done (placed done size crc field head ms_len words) ≡ true
      → size < 2 ^ (15 * words) → fit_object (placed done size crc field head ms_len words) ≡ true
  unfolding fit_object object_consistent behind_entry size_in_words
  moved done size crc field head ms_len words e k = search (and_from, and_left, and_right, lt-ltb)

  -- in the size words
  in_words : (done size crc : ℕ) (field : List ℕ) (words : ℕ) → words ≤ 1 → 2 * words ≤ done → done < 2 * words + 2 → size < 2 ^ (15 * words)
      → Keeps (placed done size crc field s.head 0 words)
  unfolding object_done when◌then◌else◌
  in_words done size crc field words few low high sized =
      keeps_at (placed done size crc field s.head 0 words) taken (own _ ∙ moved done size crc field s.head 0 words (search made) sized)

  -- behind them
  record Fits (done size ms_len words : ℕ) : Type 0 where
    some : 1 ≤ words
    few : words ≤ 2
    bytes : ms_len ≡ 2 * words
    more : 0 < size
    ends : may_end s.header s.object (s.object + ms_len + size + 2) ≡ true
    behind : ms_len ≤ done
    inside : done < ms_len + size + 2
    sized : size < 2 ^ (15 * words)

  in_data : (done size crc : ℕ) (field head : List ℕ) (ms_len words : ℕ) → Fits done size ms_len words → Keeps (placed done size crc field head ms_len words)
  unfolding object_done when◌then◌else◌
  in_data done size crc field head ms_len words f =
      let b = f.bytes in
      let w = f.some in
      keeps_at (placed done size crc field head ms_len words) taken
      (own _ ∙ moved done size crc field head ms_len words (rw (ne_eqb ms_len 0 (λ z. omega arith)) (search made)) f.sized)

  -- as far as a piece leads
  goes : (done crc : ℕ) (field head : List ℕ) → (s.ms_len ≡ 0 → ⊥) → s.done ≤ done → done < s.ms_len + s.size + 2
      → Keeps (placed done s.size crc field head s.ms_len s.words)
  goes done crc field head known k inside =
      let bytes = shows.word_bytes known in
      let behind = shows.behind known in
      in_data done s.size crc field head s.ms_len s.words
      (record {
        some = omega arith;
        few = shows.words;
        bytes = bytes;
        more = shows.some known;
        ends = shows.ends known;
        behind = omega arith;
        inside = inside;
        sized = shows.sized;
      })

  -- ---- what settles

  at_size : (done size crc : ℕ) (field : List ℕ) → s.words ≤ 1 → done ≡ 2 * s.words + 2 → size < 2 ^ (15 * (s.words + 1))
      → Keeps (settle_object_size s done size crc field).state
  unfolding settle_object_size
  at_size done size crc field few whole sized =
      in_both (λ (r : Fed). Keeps r.state) (ltb 0 size)
      (λ e. in_both (λ (r : Fed). Keeps r.state) (may_end s.header s.object (s.object + done + size + 2))
      (λ k. in_data done size crc field s.head done (s.words + 1)
      (record {
        some = omega arith;
        few = omega arith;
        bytes = omega arith;
        more = ltb-true _ _ e;
        ends = k;
        behind = omega arith;
        inside = omega arith;
        sized = sized;
      }))
      (λ k. keeps_failing s _))
      (λ e. keeps_failing s _)

  at_first : (done size crc : ℕ) (field : List ℕ) → s.words ≡ 0 → done ≡ 2 * s.words + 2 → size < 2 ^ (15 * (s.words + 1))
      → Keeps (placed done size crc field s.head 0 1)
  at_first done size crc field none whole sized = in_words done size crc field 1 (omega arith) (omega arith) (omega arith) (rw none at sized)

  at_word : (done crc : ℕ) (field : List ℕ) (word : ℕ) → s.words ≤ 1 → done ≡ 2 * s.words + 2 → Keeps (settle_word s done crc field word).state
  unfolding settle_word
  at_word done crc field word few whole =
      let sized = word_fits s.size word s.words few shows.sized in
      in_both (λ (r : Fed). Keeps r.state) (is_last word)
      (λ e. at_size done _ crc field few whole sized)
      (λ e. in_both (λ (r : Fed). Keeps r.state) (eqb s.words 0)
      (λ k. at_first done _ crc field (eqb-true _ _ k) whole sized)
      (λ k. keeps_failing s _))

  led : Led s.header s.map s.object
  led =
      let o = shows in
      record {
        chunk = in_its_chunk s fit;
        low = o.low;
        high = o.high;
        field = o.field;
        shift = o.shift;
        mc = o.mc;
        located = o.located;
        near = omega arith;
      }

  at_verdict : (field : List ℕ) (v : Verdict) → Keeps (settle_verdict s field v).state
  unfolding settle_verdict
  at_verdict field (holds r) = keeps_leave_object (in_unit s s.stage (s.ms_len + s.size + 2) s.size s.crc field) s.object taken led
  at_verdict field (fails f) = keeps_failing s f

  at_crc : (field : List ℕ) (stored : ℕ) → Keeps (settle_object_crc s field stored).state
  unfolding settle_object_crc
  at_crc field stored =
      in_both (λ (r : Fed). Keeps r.state) (eqb stored s.crc) (λ e. at_verdict field _) (λ e. keeps_failing s _)

  -- ---- what a piece does

  module _ (piece : List ℕ) (some : 0 < length piece) (fits : length piece ≤ (request_object s).len) where
    feed_word_lem : s.ms_len ≡ 0 → length piece ≤ s.done - s.done % 2 + 2 - s.done → Keeps (feed_word s piece).state
    unfolding feed_word
    feed_word_lem none most =
        let few = shows.few_words none in
        let low = shows.word_low none in
        let high = shows.word_high none in
        in_both (λ (r : Fed). Keeps r.state) (eqb ((s.done + length piece) % 2) 0)
        (λ e.
        let even : (s.done + length piece) % 2 ≡ 0 = eqb-true _ _ e in
        at_word _ _ _ _ few (omega arith))
        (λ e.
        let odd : (s.done + length piece) % 2 ≡ 0 → ⊥ = eqb-false _ _ e in
        still none few (omega arith) (omega arith))
      where
        still : s.ms_len ≡ 0 → s.words ≤ 1 → 2 * s.words ≤ s.done + length piece → s.done + length piece < 2 * s.words + 2
            → Keeps (in_unit s s.stage (s.done + length piece) s.size (crc_of s.crc piece) (sets s.field (s.done % 2) piece))
        still none few low high = rw none (in_words (s.done + length piece) s.size _ _ s.words few low high shows.sized)

    feed_data : (s.ms_len ≡ 0 → ⊥) → s.done < s.ms_len + s.size → length piece ≤ s.ms_len + s.size - s.done → Keeps (feed_object_data s piece).state
    unfolding feed_object_data
    feed_data known inside most = goes (s.done + length piece) _ _ _ known (omega arith) (omega arith)

    feed_crc : (s.ms_len ≡ 0 → ⊥) → length piece ≤ s.ms_len + s.size + 2 - s.done → Keeps (feed_object_crc s piece).state
    unfolding feed_object_crc
    feed_crc known most =
        let inside = shows.inside known in
        in_both (λ (r : Fed). Keeps r.state) (eqb (s.done + length piece) (s.ms_len + s.size + 2))
        (λ e. at_crc _ _)
        (λ e. goes (s.done + length piece) _ _ _ known (omega arith) (below (s.done + length piece) (s.ms_len + s.size + 2) (omega arith) e))

    pub keeps_object : Keeps (feed_object s piece).state
    unfolding feed_object request_object object_end when◌then◌else◌
    keeps_object = split (eqb s.ms_len 0) refl (ltb s.done (s.ms_len + s.size)) refl
      where
        split : (a : Bool) → eqb s.ms_len 0 ≡ a → (b : Bool) → ltb s.done (s.ms_len + s.size) ≡ b → Keeps (feed_object s piece).state
        split true e b k = rw e (feed_word_lem (eqb-true _ _ e) (rw e at fits))
        split false e true k = rw (e, k) (feed_data (eqb-false _ _ e) (ltb-true _ _ k) (rw (e, k) at fits))
        split false e false k = rw (e, k) (feed_crc (eqb-false _ _ e) (rw (e, k) at fits))
