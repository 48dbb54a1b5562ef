-- Laws of `is_whole`: more steps than bytes change nothing, and what is left of a list behind the operations that were gone past.
use Rattle.std.proofs.Common.{◌≡◌, refl, sym, ◌∙◌, ℕ, zero, suc, ◌-◌, ◌<◌, ◌≤◌, Bool, true, false, List, length, take, drop, length-drop, arith, eq-eqb, ne_eqb}
use Rattle.std.proofs.lemmas.Grind.{common_steps}
use lib.Seq.{take_all}
use Rattle.std.specs.Prelude.{Option, Some, None, eqb, if◌then◌else◌}
use Rattle.octets.specs.Octets.{counted_size}
use Rattle.replay.specs.Form.{is_bare, state_size, feed_size, size_of, is_whole}

whole_one : (k n : ℕ) (s : List ℕ) → size_of s ≡ Some n → 0 < length s → is_whole (suc k) s ≡ is_whole k (drop n s)
unfolding is_whole
whole_one k n s e h = rw (ne_eqb (length s) 0 (λ z. omega arith), e)

either : (v : Bool) → (if v then true else false) ≡ v
either true = refl
either false = refl

whole_none : (k : ℕ) (s : List ℕ) → size_of s ≡ None → is_whole k s ≡ eqb (length s) 0
unfolding is_whole
whole_none zero s e = refl
whole_none (suc k) s e = rw e (either (eqb (length s) 0))

none_there : (s : List ℕ) → length s ≡ 0 → size_of s ≡ None
unfolding size_of
none_there s e = rw (eq-eqb (length s) 0 e)

-- no operation is empty
some_bytes : (s : List ℕ) (n : ℕ) → size_of s ≡ Some n → (0 < n) × (0 < length s)
unfolding size_of is_bare state_size feed_size counted_size
some_bytes s n e = grind (arith, common_steps)

-- so as many steps as bytes are enough
pub enough : (a b : ℕ) (s : List ℕ) → length s ≤ a → length s ≤ b → is_whole a s ≡ is_whole b s
enough zero b s ha hb = let e = none_there s (omega arith) in whole_none zero s e ∙ sym (whole_none b s e)
enough (suc a) zero s ha hb = let e = none_there s (omega arith) in whole_none (suc a) s e ∙ sym (whole_none zero s e)
enough (suc a) (suc b) s ha hb = step (size_of s) refl λ n. enough a b (drop n s)
  where
    step : (o : Option ℕ) → size_of s ≡ o → ((n : ℕ) → length (drop n s) ≤ a → length (drop n s) ≤ b → is_whole a (drop n s) ≡ is_whole b (drop n s))
        → is_whole (suc a) s ≡ is_whole (suc b) s
    step None e rest = whole_none (suc a) s e ∙ sym (whole_none (suc b) s e)
    step (Some n) e rest =
        let some = some_bytes s n e in
        whole_one a n s e some.1 ∙ rest n (simp length-drop (omega (arith, some.0))) (simp length-drop (omega (arith, some.0))) ∙ sym (whole_one b n s e some.1)

-- the rest of a list, and a number of steps that are enough for it
pub record Left (s rest : List ℕ) : Type 0 where
  pub steps : ℕ
  pub enough : length rest ≤ steps
  pub same : is_whole (length s) s ≡ is_whole steps rest

pub left_past : (s rest : List ℕ) (n : ℕ) → Left s rest → Some n ≡ size_of rest → 0 < n → n ≤ length rest → Left s (take (length rest - n) (drop n rest))
left_past s rest n l e some inside = rw (take_all (length rest - n) (drop n rest) (simp length-drop (omega arith))) (past l.steps l.enough l.same)
  where
    past : (k : ℕ) → length rest ≤ k → is_whole (length s) s ≡ is_whole k rest → Left s (drop n rest)
    past zero h w = absurd (omega arith)
    past (suc k) h w = record { steps = k; enough = simp length-drop (omega arith); same = w ∙ whole_one k n rest (sym e) (omega arith) }

pub left_none : (s rest : List ℕ) → Left s rest → None ≡ size_of rest → is_whole (length s) s ≡ eqb (length rest) 0
left_none s rest l e = l.same ∙ whole_none l.steps rest (sym e)

pub ruleset left = (left_past, left_none)
