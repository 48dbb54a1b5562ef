-- Laws of a demand's bytes: behind the first k of them the rest of the demand is left, and what the k-th says.
use Prim.Native.Nat.{ℕ, zero, suc, ◌+◌, ◌-◌, ◌≤◌, ◌<◌}
use mathlib.Core.Bool.{Bool, true, false}
use mathlib.Core.List.{List, [], ◌∷◌}
use mathlib.Core.Path.{◌≡◌, refl, ap, ap₂, ◌∙◌}
use native.Mathlib.Omega.{arith}
use native.Mathlib.Nat.{add-zero, zero-add, suc-add}
use lib.ListN.{length, get_or, take, drop}
use lib.Dec.{eqb}
use borrow.Author.Tests.{lt-ltb, eq-eqb, ne_eqb, eqb-true, eqb-false}
use Rattle.streaming.specs.Choose.{when◌then◌else◌}
use Rattle.streaming.specs.declared.Fault.{Fault}
use Rattle.streaming.specs.Answers.{Answer}
use Rattle.account.specs.Account.{Account, ask, over, framing, faulted, broken, passed, says_at}
use Rattle.account.specs.Asking.{Turn, go, says_before, ask_byte, span, one_by_one, spell}
use Rattle.account.specs.Statement.{part}
use Rattle.account.proofs.Parts.{part_cons}

module _ (src : List ℕ) where
  -- ---- a demand of m bytes

  module _ (plain : Answer) (t : Turn) where
    span_cons : (at m : ℕ) → at < length src → span src at (suc m) plain t ≡ ask at (suc m) (says_before m plain t) (span src (suc at) m plain t)
    unfolding span when◌then◌else◌
    span_cons at m h = rw (lt-ltb at (length src) h)

    pub span-passed : (k m at : ℕ) → k ≤ m → at + k ≤ length src → passed k (span src at m plain t) ≡ span src (at + k) (m - k) plain t
    span-passed zero m at l h = ap₂ (λ (x n : ℕ). span src x n plain t) (omega arith) (omega arith)
    span-passed (suc k) zero at l h = absurd (omega arith)
    span-passed (suc k) (suc m) at l h =
        rw (span_cons at m (omega arith))
        (span-passed k m (suc at) (omega arith) (omega arith) ∙ ap₂ (λ (x n : ℕ). span src x n plain t) (omega arith) (omega arith))

    -- the last byte says what the turn does, and each other one the plain thing
    pub span_last : (k at : ℕ) → at + suc k ≤ length src → says_at (suc k) (span src at (suc k) plain t) ≡ t.says
    span_last zero at h = rw (span_cons at 0 (omega arith))
    span_last (suc k) at h = rw (span_cons at (suc k) (omega arith)) (span_last k (suc at) (omega arith))

    pub span_plain : (k m at : ℕ) → suc k < m → at + suc k ≤ length src → says_at (suc k) (span src at m plain t) ≡ plain
    span_plain k zero at l h = absurd (omega arith)
    span_plain zero (suc zero) at l h = absurd (omega arith)
    span_plain zero (suc (suc m)) at l h = rw (span_cons at (suc m) (omega arith))
    span_plain (suc k) (suc m) at l h = rw (span_cons at m (omega arith)) (span_plain k m (suc at) (omega arith) (omega arith))

  -- ---- demands of one byte

  pub one_cons : (at m : ℕ) (t : Turn) → at < length src → one_by_one src at (suc m) t ≡ ask at 1 (says_before m framing t) (one_by_one src (suc at) m t)
  unfolding one_by_one when◌then◌else◌
  one_cons at m t h = rw (lt-ltb at (length src) h)

  -- one of them alone
  pub one_span : (at : ℕ) (t : Turn) → one_by_one src at 1 t ≡ span src at 1 framing t
  unfolding one_by_one span
  one_span at t = refl

  -- some of them, then the others
  pub one_add : (at m n : ℕ) (t : Turn) → 0 < n → one_by_one src at (m + n) t ≡ one_by_one src at m (go framing (one_by_one src (at + m) n t))
  unfolding one_by_one
  one_add at zero n t h = rw (zero-add, add-zero)
  one_add at (suc m) n t h =
      let x : suc at + m ≡ at + suc m = omega arith in
      rw (suc-add, ← x) (ap₂ (ask_byte src at 1) (plain m n _ h) (one_add (suc at) m n t h))
    where
      plain : (m n : ℕ) (a : Account) → 0 < n → says_before (m + n) framing t ≡ says_before m framing (go framing a)
      plain zero (suc n) a h = rw zero-add
      plain zero zero a h = absurd (omega arith)
      plain (suc m) n a h = rw suc-add

  -- ---- given bytes

  module _ (f : Fault) (t : Turn) where
    spell_cons : (at w : ℕ) (ws : List ℕ) → at < length src → get_or src at 0 ≡ w
        → spell src at (w ∷ ws) f t ≡ ask at (suc (length ws)) (says_before (length ws) framing t) (spell src (suc at) ws f t)
    unfolding spell when◌then◌else◌
    spell_cons at w ws h e = rw (eq-eqb (get_or src at 0) w e, lt-ltb at (length src) h)

    spell-torn : (at w : ℕ) (ws : List ℕ) → at < length src → (get_or src at 0 ≡ w → ⊥)
        → spell src at (w ∷ ws) f t ≡ ask at (suc (length ws)) (faulted f) (over (broken f))
    unfolding spell when◌then◌else◌
    spell-torn at w ws h e = rw (ne_eqb (get_or src at 0) w e, lt-ltb at (length src) h)

    -- the source has them as far as a piece goes
    pub spell-passed : (k at : ℕ) (ws : List ℕ) → k ≤ length ws → at + k ≤ length src → part src at k ≡ take k ws
        → passed k (spell src at ws f t) ≡ spell src (at + k) (drop k ws) f t
    spell-passed zero at ws l h e = ap (λ (x : ℕ). spell src x ws f t) (omega arith)
    spell-passed (suc k) at [] l h e = absurd (omega arith)
    spell-passed (suc k) at (w ∷ ws) l h e =
        let e' : get_or src at 0 ∷ part src (suc at) k ≡ w ∷ take k ws = rw (part_cons src at k (omega arith)) at e in
        rw (spell_cons at w ws (omega arith) (cc e'))
        (spell-passed k (suc at) ws (omega arith) (omega arith) (cc e') ∙ ap (λ (x : ℕ). spell src x (drop k ws) f t) (omega arith))

    pub spell_last : (k at : ℕ) (ws : List ℕ) → length ws ≡ suc k → at + suc k ≤ length src → part src at (suc k) ≡ take (suc k) ws
        → says_at (suc k) (spell src at ws f t) ≡ t.says
    spell_last k at [] l h e = absurd (omega arith)
    spell_last zero at (w ∷ []) l h e =
        let e' : get_or src at 0 ∷ [] ≡ w ∷ [] = rw (part_cons src at 0 (omega arith)) at e in rw (spell_cons at w [] (omega arith) (cc e'))
    spell_last zero at (w ∷ v ∷ ws) l h e = absurd (omega arith)
    spell_last (suc k) at (w ∷ ws) l h e =
        let e' : get_or src at 0 ∷ part src (suc at) (suc k) ≡ w ∷ take (suc k) ws = rw (part_cons src at (suc k) (omega arith)) at e in
        rw (spell_cons at w ws (omega arith) (cc e')) (spell_last k (suc at) ws (omega arith) (omega arith) (cc e'))

    pub spell_plain : (k at : ℕ) (ws : List ℕ) → suc k < length ws → at + suc k ≤ length src → part src at (suc k) ≡ take (suc k) ws
        → says_at (suc k) (spell src at ws f t) ≡ framing
    spell_plain k at [] l h e = absurd (omega arith)
    spell_plain zero at (w ∷ []) l h e = absurd (omega arith)
    spell_plain zero at (w ∷ v ∷ ws) l h e =
        let e' : get_or src at 0 ∷ [] ≡ w ∷ [] = rw (part_cons src at 0 (omega arith)) at e in rw (spell_cons at w (v ∷ ws) (omega arith) (cc e'))
    spell_plain (suc k) at (w ∷ ws) l h e =
        let e' : get_or src at 0 ∷ part src (suc at) (suc k) ≡ w ∷ take (suc k) ws = rw (part_cons src at (suc k) (omega arith)) at e in
        rw (spell_cons at w ws (omega arith) (cc e')) (spell_plain k (suc at) ws (omega arith) (omega arith) (cc e'))

    -- a piece with another byte among them: the fault is said, and nothing more is asked
    pub record Breaks (k : ℕ) (a : Account) : Type 0 where
      pub says : says_at k a ≡ faulted f
      pub rest : passed k a ≡ over (broken f)

    torn_breaks : (k at left : ℕ) → Breaks (suc k) (ask at left (faulted f) (over (broken f)))
    torn_breaks zero at left = record { says = refl; rest = refl }
    torn_breaks (suc k) at left = record { says = refl; rest = refl }

    more_breaks : (k at left : ℕ) (says : Answer) (a : Account) → Breaks (suc k) a → Breaks (suc (suc k)) (ask at left says a)
    more_breaks k at left says a b = record { says = b.says; rest = b.rest }

    -- by its first byte
    module _ (at w : ℕ) (ws : List ℕ)
        (next : (k : ℕ) → suc k ≤ length ws → suc at + suc k ≤ length src → (part src (suc at) (suc k) ≡ take (suc k) ws → ⊥) → Breaks (suc k) (spell src (suc at) ws f t)) where
      first_breaks : (k : ℕ) (b : Bool) → eqb (get_or src at 0) w ≡ b → suc k ≤ length (w ∷ ws) → at + suc k ≤ length src
          → (part src at (suc k) ≡ take (suc k) (w ∷ ws) → ⊥) → Breaks (suc k) (spell src at (w ∷ ws) f t)
      first_breaks k false b l h e = rw (spell-torn at w ws (omega arith) (eqb-false (get_or src at 0) w b)) (torn_breaks k at _)
      first_breaks zero true b l h e =
          let same : get_or src at 0 ≡ w = eqb-true (get_or src at 0) w b in
          absurd (e (part_cons src at 0 (omega arith) ∙ ap (λ (x : ℕ). x ∷ []) same))
      first_breaks (suc k) true b l h e =
          let same : get_or src at 0 ≡ w = eqb-true (get_or src at 0) w b in
          rw (spell_cons at w ws (omega arith) same)
          (more_breaks k at _ _ _ (next k (omega arith) (omega arith)
          λ d. e (part_cons src at (suc k) (omega arith) ∙ ap₂ (λ (x : ℕ) (xs : List ℕ). x ∷ xs) same d)))

    pub spell_breaks : (k at : ℕ) (ws : List ℕ) → suc k ≤ length ws → at + suc k ≤ length src → (part src at (suc k) ≡ take (suc k) ws → ⊥)
        → Breaks (suc k) (spell src at ws f t)
    spell_breaks k at [] l h e = absurd (omega arith)
    spell_breaks k at (w ∷ ws) l h e = first_breaks at w ws (λ k. spell_breaks k (suc at) ws) k (eqb (get_or src at 0) w) refl l h e
