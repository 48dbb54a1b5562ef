-- Laws of the demands on a source: each asks for its first byte, whether the source has it or not.
use Prim.Native.Nat.{ℕ, zero, suc, ◌<◌}
use mathlib.Core.List.{List, [], ◌∷◌}
use mathlib.Core.Path.{◌≡◌, refl, ap}
use native.Mathlib.Omega.{arith}
use lib.ListN.{length}
use Rattle.streaming.specs.declared.Request.{Request}
use Rattle.streaming.specs.declared.Fault.{Fault}
use Rattle.streaming.specs.Answers.{Answer}
use Rattle.streaming.proofs.Choose.{in_both}
use Rattle.account.specs.Account.{Account, ask_of, demand}
use Rattle.account.specs.Asking.{Turn, ask_byte, span, one_by_one, spell}

-- equal demands are of one place and one length
pub demand-same : {at left at' left' : ℕ} → demand at left ≡ demand at' left' → (at ≡ at') × (left ≡ left')
demand-same {at} {left} {at'} {left'} e =
    let r : ◌≡◌ {A = Request} (record { offset = at; len = left }) (record { offset = at'; len = left' }) = cc in
    (ap (λ (x : Request). x.offset) r, ap (λ (x : Request). x.len) r)

module _ (src : List ℕ) where
  pub ask_byte_asks : (at left : ℕ) (says : Answer) (rest : Account) → ask_of (ask_byte src at left says rest) ≡ demand at left
  ask_byte_asks at left says rest = in_both (λ (a : Account). ask_of a ≡ demand at left) _ (λ e. refl) (λ e. refl)

  pub span_asks : (at n : ℕ) (plain : Answer) (t : Turn) → ask_of (span src at (suc n) plain t) ≡ demand at (suc n)
  unfolding span
  span_asks at n plain t = ask_byte_asks at (suc n) _ _

  pub one_by_one_asks : (at n : ℕ) (t : Turn) → ask_of (one_by_one src at (suc n) t) ≡ demand at 1
  unfolding one_by_one
  one_by_one_asks at n t = ask_byte_asks at 1 _ _

  pub spell_asks : (at w : ℕ) (ws : List ℕ) (f : Fault) (t : Turn) → ask_of (spell src at (w ∷ ws) f t) ≡ demand at (suc (length ws))
  unfolding spell
  spell_asks at w ws f t =
      in_both (λ (a : Account). ask_of a ≡ demand at (suc (length ws))) _ (λ e. ask_byte_asks at _ _ _) (λ e. ask_byte_asks at _ _ _)

  -- the same of some bytes
  pub span_asks_some : (at n : ℕ) (plain : Answer) (t : Turn) → 0 < n → ask_of (span src at n plain t) ≡ demand at n
  span_asks_some at zero plain t h = absurd (omega arith)
  span_asks_some at (suc n) plain t h = span_asks at n plain t

  pub spell_asks_some : (at : ℕ) (ws : List ℕ) (f : Fault) (t : Turn) → 0 < length ws → ask_of (spell src at ws f t) ≡ demand at (length ws)
  spell_asks_some at [] f t h = absurd (omega arith)
  spell_asks_some at (w ∷ ws) f t h = spell_asks at w ws f t
