-- A part of a source is the same where its place and its length are held to the source.
use Prim.Native.Nat.{ℕ, zero, suc, ◌-◌, ◌≤◌, min}
use mathlib.Core.List.{List, [], ◌∷◌}
use mathlib.Core.Logic.{◌⊎◌, inl, inr}
use mathlib.Core.Path.{◌≡◌, refl, sym, ap, ◌∙◌}
use native.Mathlib.Omega.{arith}
use lib.ListN.{length, take, drop, length-drop}
use lib.Seq.{take_all}
use Rattle.account.specs.Statement.{part}

drop_all : (n : ℕ) (l : List ℕ) → length l ≤ n → drop n l ≡ []
drop_all zero [] h = refl
drop_all zero (x ∷ xs) h = absurd (omega arith)
drop_all (suc n) [] h = refl
drop_all (suc n) (x ∷ xs) h = drop_all n xs (omega arith)

split : (n m : ℕ) → (n ≤ m) ⊎ (m ≤ n)
split zero m = inl (omega arith)
split (suc n) zero = inr (omega arith)
split (suc n) (suc m) = step (split n m)
  where
    step : (n ≤ m) ⊎ (m ≤ n) → (suc n ≤ suc m) ⊎ (suc m ≤ suc n)
    step (inl h) = inl (omega arith)
    step (inr h) = inr (omega arith)

take_within : (n : ℕ) (l : List ℕ) → take (min n (length l)) l ≡ take n l
take_within n l = by (split n (length l))
  where
    by : (n ≤ length l) ⊎ (length l ≤ n) → take (min n (length l)) l ≡ take n l
    by (inl h) = let e : min n (length l) ≡ n = omega arith in ap (λ (k : ℕ). take k l) e
    by (inr h) = take_all (min n (length l)) l (omega arith) ∙ sym (take_all n l h)

drop-within : (n : ℕ) (l : List ℕ) → drop (min n (length l)) l ≡ drop n l
drop-within n l = by (split n (length l))
  where
    by : (n ≤ length l) ⊎ (length l ≤ n) → drop (min n (length l)) l ≡ drop n l
    by (inl h) = let e : min n (length l) ≡ n = omega arith in ap (λ (k : ℕ). drop k l) e
    by (inr h) = drop_all (min n (length l)) l (omega arith) ∙ sym (drop_all n l h)

pub part-within : (src : List ℕ) (at n : ℕ) → take (min n (length src - min at (length src))) (drop (min at (length src)) src) ≡ part src at n
part-within src at n =
    ap (λ (k : ℕ). take (min n k) (drop (min at (length src)) src)) (sym (length-drop (min at (length src)) src))
    ∙ take_within n (drop (min at (length src)) src)
    ∙ ap (take n) (drop-within at src)
