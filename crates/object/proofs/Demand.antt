-- Laws of a fit object: how long it can be, that its demand ends behind what is done, and where a piece of the demand ends.
use Prim.Native.Nat.{ℕ, ◌+◌, ◌*◌, ◌%◌, ◌^◌, ◌≤◌, ◌<◌}
use mathlib.Core.Bool.{Bool, true, false}
use mathlib.Core.Path.{◌≡◌, refl}
use native.Mathlib.Nat.{pow-le-pow_right}
use native.Mathlib.Omega.{arith}
use lib.Dec.{eqb}
use borrow.Author.Tests.{eqb-true, eqb-false, ltb-true, lt-ltb, le-ltb, eq-eqb, ne_eqb}
use Rattle.streaming.specs.Choose.{when◌then◌else◌}
use Rattle.streaming.specs.declared.FlatWalker.{FlatWalker}
use Rattle.streaming.proofs.Choose.{in_both}
use Rattle.object.specs.Fit.{FitObject}
use Rattle.object.specs.Object.{object_end, request_object}

module _ (s : FlatWalker) (f : FitObject s) where
  size_small : s.size < 2 ^ 30
  size_small =
      let most : 2 ^ (15 * s.words) ≤ 2 ^ 30 = pow-le-pow_right {n = 2} (omega arith) {i = 15 * s.words} {j = 30} (omega arith) in
      omega (arith, f.sized)

  -- size words, data and checksum
  pub span_small : s.ms_len + s.size + 2 < 2 ^ 31
  span_small = split (eqb s.ms_len 0) refl where
    split : (b : Bool) → eqb s.ms_len 0 ≡ b → s.ms_len + s.size + 2 < 2 ^ 31
    split true e = omega (arith, size_small, eqb-true s.ms_len 0 e)
    split false e = omega (arith, size_small, f.words, f.word_bytes (eqb-false s.ms_len 0 e))

  pub ends_ahead : s.done < object_end s.done s.size s.ms_len
  unfolding object_end
  ends_ahead =
      in_both (λ end. s.done < end) _ (λ _. omega arith)
      (λ e. in_both (λ end. s.done < end) _ (λ l. ltb-true _ _ l) (λ _. f.inside (eqb-false _ _ e)))

  -- a piece of n bytes in a size word
  pub word_end : s.ms_len ≡ 0 → (n : ℕ) → s.done % 2 + n ≤ 2 → s.done + n ≤ 4
  word_end none n h = omega (arith, f.few_words none, f.word_low none, f.word_high none)

  -- a piece of n bytes within the demand
  module _ (n : ℕ) (within : n ≤ (request_object s).len) where
    pub word_room : s.ms_len ≡ 0 → s.done % 2 + n ≤ 2
    unfolding request_object object_end when◌then◌else◌
    word_room none = omega (arith, rw (eq-eqb _ 0 none) at within)

    module _ (some : s.ms_len ≡ 0 → ⊥) where
      pub data_room : s.done < s.ms_len + s.size → s.done + n ≤ s.ms_len + s.size
      unfolding request_object object_end when◌then◌else◌
      data_room h = omega (arith, rw (ne_eqb _ 0 some, lt-ltb _ _ h) at within)

      pub crc_room : s.ms_len + s.size ≤ s.done → s.done + n ≤ s.ms_len + s.size + 2
      unfolding request_object object_end when◌then◌else◌
      crc_room h = omega (arith, f.inside some, rw (ne_eqb _ 0 some, le-ltb _ _ h) at within)
