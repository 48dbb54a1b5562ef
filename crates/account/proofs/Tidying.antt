-- Demands make well-formed accounts where what follows them is well formed. That has to be only where the source holds the whole demand.
use Prim.Native.Nat.{ℕ, zero, suc, ◌+◌, ◌≤◌, ◌<◌}
use mathlib.Core.Bool.{Bool, true, false}
use mathlib.Core.List.{List, [], ◌∷◌}
use mathlib.Core.Path.{◌≡◌}
use native.Mathlib.Omega.{arith}
use lib.ListN.{length, get_or}
use lib.Dec.{ltb, eqb}
use borrow.Author.Tests.{ltb-true, ltb-false}
use Rattle.streaming.specs.Choose.{when◌then◌else◌}
use Rattle.streaming.specs.declared.Fault.{Fault}
use Rattle.streaming.specs.Answers.{Answer}
use Rattle.streaming.proofs.Choose.{in_both}
use Rattle.account.specs.Account.{Account}
use Rattle.account.specs.Asking.{Turn, bad, ask_byte, span, one_by_one, spell}
use Rattle.account.specs.Tidy.{Quiet, Joined, last, more, torn, Tidy, tidy_over, tidy_ask}
use Rattle.account.proofs.Asking.{span_asks, spell_asks}

module _ {src : List ℕ} where
  -- ---- a choice between accounts, and between turns

  pub tidy_if : (b : Bool) {x y : Account} → (b ≡ true → Tidy src x) → (b ≡ false → Tidy src y) → Tidy src (when b then x else y)
  tidy_if b = in_both (Tidy src) b

  pub tidy_turn_if : (b : Bool) (x y : Turn) → (b ≡ true → Tidy src x.rest) → (b ≡ false → Tidy src y.rest) → Tidy src (when b then x else y).rest
  tidy_turn_if b x y = in_both (λ (t : Turn). Tidy src t.rest) b

  pub tidy_bad : (f : Fault) → Tidy src (bad f).rest
  tidy_bad f = tidy_over tt

  -- ---- a byte of a demand

  pub tidy_ask_byte : (at left : ℕ) {says : Answer} {rest : Account} → Joined at left says rest → (at < length src → Tidy src rest)
      → Tidy src (ask_byte src at left says rest)
  tidy_ask_byte at left j r =
      tidy_if (ltb at (length src)) (λ e. tidy_ask (ltb-true at (length src) e) j (r (ltb-true at (length src) e)))
      (λ e. tidy_over (ltb-false at (length src) e))

  -- ---- a demand: `tidy_span` of one byte or more; `tidy_span_any` of any number, `passing` among them

  pub tidy_span : (at n : ℕ) (plain : Answer) (t : Turn) → Quiet plain → (at + suc n ≤ length src → Tidy src t.rest) → Tidy src (span src at (suc n) plain t)
  unfolding span
  tidy_span at zero plain t q r = tidy_ask_byte at 1 last (λ l. r (omega arith))
  tidy_span at (suc n) plain t q r =
      tidy_ask_byte at (suc (suc n)) (more q (span_asks src (suc at) n plain t)) (λ l. tidy_span (suc at) n plain t q (λ k. r (omega arith)))

  pub tidy_span_some : (at n : ℕ) (plain : Answer) (t : Turn) → 0 < n → Quiet plain → (at + n ≤ length src → Tidy src t.rest)
      → Tidy src (span src at n plain t)
  tidy_span_some at zero plain t h q r = absurd (omega arith)
  tidy_span_some at (suc n) plain t h q r = tidy_span at n plain t q r

  pub tidy_span_any : (at n : ℕ) (plain : Answer) (t : Turn) → Quiet plain → Tidy src t.rest → Tidy src (span src at n plain t)
  unfolding span
  tidy_span_any at zero plain t q r = r
  tidy_span_any at (suc n) plain t q r = tidy_span at n plain t q (λ k. r)

  -- ---- demands of one byte each

  pub tidy_one_by_one : (at n : ℕ) (t : Turn) → (at + suc n ≤ length src → Tidy src t.rest) → Tidy src (one_by_one src at (suc n) t)
  unfolding one_by_one
  tidy_one_by_one at zero t r = tidy_ask_byte at 1 last (λ l. r (omega arith))
  tidy_one_by_one at (suc n) t r = tidy_ask_byte at 1 last (λ l. tidy_one_by_one (suc at) n t (λ k. r (omega arith)))

  pub tidy_one_by_one_any : (at n : ℕ) (t : Turn) → Tidy src t.rest → Tidy src (one_by_one src at n t)
  unfolding one_by_one
  tidy_one_by_one_any at zero t r = r
  tidy_one_by_one_any at (suc n) t r = tidy_one_by_one at n t (λ k. r)

  -- ---- a demand whose bytes are given

  pub tidy_spell : (at w : ℕ) (ws : List ℕ) (f : Fault) (t : Turn) → (at + suc (length ws) ≤ length src → Tidy src t.rest)
      → Tidy src (spell src at (w ∷ ws) f t)
  unfolding spell
  tidy_spell at w [] f t r =
      tidy_if (eqb (get_or src at 0) w) (λ e. tidy_ask_byte at 1 last (λ l. r (omega arith))) (λ e. tidy_ask_byte at 1 torn (λ l. tidy_bad f))
  tidy_spell at w (v ∷ ws) f t r =
      tidy_if (eqb (get_or src at 0) w)
      (λ e. tidy_ask_byte at (suc (suc (length ws))) (more tt (spell_asks src (suc at) v ws f t)) (λ l. tidy_spell (suc at) v ws f t (λ k. r (omega arith))))
      (λ e. tidy_ask_byte at (suc (suc (length ws))) torn (λ l. tidy_bad f))

  pub tidy_spell_any : (at : ℕ) (ws : List ℕ) (f : Fault) (t : Turn) → Tidy src t.rest → Tidy src (spell src at ws f t)
  unfolding spell
  tidy_spell_any at [] f t r = r
  tidy_spell_any at (w ∷ ws) f t r = tidy_spell at w ws f t (λ k. r)
