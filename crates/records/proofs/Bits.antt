-- Laws of bits: n of them make a number below 2^n, and the bits behind them join it; and what taking them answers, test by test.
use mathlib.Core.Path.{◌≡◌, ap}
use mathlib.Core.List.{List}
use Prim.Native.Nat.{ℕ, zero, suc, ◌+◌, ◌-◌, ◌*◌, ◌^◌, ◌<◌, ◌≤◌}
use native.Mathlib.Nat.{min-eq_left, min-eq_right, add-zero, add-suc, add_assoc, mul_assoc, pow-suc, pow-succ', mod-lt, pow-le-pow_right}
use native.Mathlib.Omega.{arith}
use lib.Dec.{lit<, leb}
use lib.ListN.{length}
use lib.Pow.{pow_pos}
use Rattle.std.specs.Prelude.{Option, Some, None, min}
use borrow.Author.Tests.{lt-ltb, le-ltb, le-leb, lt-leb, ltb-true, ltb-false, leb-false}
use Rattle.streaming.specs.Choose.{when◌then◌else◌}
use Rattle.streaming.proofs.Choose.{in_both}
use Rattle.std.proofs.Common.{inl, inr}
use Rattle.std.proofs.lemmas.Bool.{cases_lt}
use Rattle.std.proofs.lemmas.Grind.{div_ceil_times}
use Rattle.std.proofs.lemmas.Option.{none-some}
use Rattle.rules.specs.Prologue.{bit_at, bits_at}
use Rattle.records.specs.Bits.{taken_at, number, further}

module _ (bytes : List ℕ) where
  pub bit_lt : (at : ℕ) → bit_at bytes at < 2
  unfolding bit_at
  bit_lt at = mod-lt _ (lit< tt)

  pub bits_lt : (at n : ℕ) → bits_at bytes at n < 2 ^ n
  unfolding bits_at
  bits_lt at zero = lit< tt
  bits_lt at (suc n) = omega (arith, bits_lt at n, bit_lt (at + n), pow-suc 2 n)

  -- m bits and the n behind them
  pub bits_join : (at m n : ℕ) → bits_at bytes at (m + n) ≡ 2 ^ n * bits_at bytes at m + bits_at bytes (at + m) n
  unfolding bits_at
  bits_join at m zero = rw (add-zero m) (omega arith)
  bits_join at m (suc n) =
      rw (add-suc m n, bits_join at m n, pow-succ' 2 n, mul_assoc 2 (2 ^ n) (bits_at bytes at m), ← add_assoc at m n) (omega arith)

  -- less than 64 bits have room for one more
  pub bits_room : (at n : ℕ) → n < 64 → bits_at bytes at n < 2 ^ 63
  bits_room at n h =
      let most : n ≤ 63 = omega arith in
      omega (arith, bits_lt at n, pow-le-pow_right {n = 2} (lit< tt) most)

module _ (bytes : List ℕ) (at n : ℕ) where
  pub too_many : 64 < n → None ≡ taken_at bytes at n
  unfolding taken_at when◌then◌else◌
  too_many h = simp (lt-leb n 64 h)

  pub too_far : n ≤ 64 → 2 ^ 64 ≤ at + n → None ≡ taken_at bytes at n
  unfolding taken_at when◌then◌else◌
  too_far h k = simp (le-leb n 64 h, le-ltb (at + n) (2 ^ 64) k)

  pub too_few : n ≤ 64 → at + n < 2 ^ 64 → 8 * length bytes < at + n → None ≡ taken_at bytes at n
  unfolding taken_at when◌then◌else◌
  too_few h k l = simp (le-leb n 64 h, lt-ltb (at + n) (2 ^ 64) k, lt-leb (at + n) (8 * length bytes) l)

  pub taken : n ≤ 64 → at + n < 2 ^ 64 → at + n ≤ 8 * length bytes → Some (bits_at bytes at n) ≡ taken_at bytes at n
  unfolding taken_at when◌then◌else◌
  taken h k l = simp (le-leb n 64 h, lt-ltb (at + n) (2 ^ 64) k, le-leb (at + n) (8 * length bytes) l)

  -- where bits are not there, the bytes end before theirs do
  pub run_out : n ≤ 64 → at + n < 2 ^ 64 → None ≡ taken_at bytes at n → 8 * length bytes < at + n
  unfolding taken_at
  run_out h k e =
      in_both {A = Option ℕ} (λ o. None ≡ o → 8 * length bytes < at + n) (leb (at + n) (8 * length bytes)) (λ t q. absurd (none-some _ q)) (λ t q. leb-false _ _ t)
      (rw (le-leb n 64 h, lt-ltb (at + n) (2 ^ 64) k) at e)

-- and none behind them are there
pub none_behind : (bytes : List ℕ) (at n later m : ℕ) → n ≤ 64 → at + n ≤ later → later + 64 < 2 ^ 64 → None ≡ taken_at bytes at n → None ≡ taken_at bytes later m
none_behind bytes at n later m h k near e =
    let short = run_out bytes at n h (omega arith) e in
    elim (cases_lt 64 m) [
      | inl many ↦ too_many bytes later m many
      | inr few ↦ too_few bytes later m few (omega arith) (omega arith)
    ]

pub further_near : (at n : ℕ) → at + n < 2 ^ 64 → further at n ≡ at + n
unfolding further when◌then◌else◌
further_near at n h = rw (le-ltb (2 ^ 64 - 1) (at + n) (omega arith))

-- the place further on as the library's sum that stops at the last place has it
pub further_is : (at n : ℕ) → min (at + n) (2 ^ 64 - 1) ≡ further at n
unfolding further when◌then◌else◌
further_is at n =
    in_both (λ m. min (at + n) (2 ^ 64 - 1) ≡ m) _ (λ e. let far = ltb-true (2 ^ 64 - 1) (at + n) e in min-eq_right (omega arith))
    (λ e. let near = ltb-false (2 ^ 64 - 1) (at + n) e in min-eq_left (omega arith))

-- n bits that are there make a number below 2^n
pub number_lt : (bytes : List ℕ) (at n : ℕ) → number (taken_at bytes at n) < 2 ^ n
unfolding taken_at
number_lt bytes at n = in_both (λ t. number t < 2 ^ n) _ (λ e. bits_lt bytes at n) (λ e. pow_pos n)

pub taken_lt : (bytes : List ℕ) (at n : ℕ) {value : ℕ} → Some value ≡ taken_at bytes at n → value < 2 ^ n
taken_lt bytes at n e = rw (ap number e) (number_lt bytes at n)

-- what the search needs of them for `take_at`
pub ruleset taking = (too_many, too_far, too_few, taken, bit_lt, bits_room, div_ceil_times)
