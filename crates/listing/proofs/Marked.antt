-- Arrays of a declared struct: one value again and again, in a list that is cut in two and in an array; and an array as a field of another struct.
use mathlib.Core.Path.{◌≡◌, refl, ◌∙◌, ap}
use Prim.Native.Nat.{ℕ, zero, suc, ◌+◌, ◌-◌, ◌≤◌}
use native.Mathlib.Nat.{zero-add, suc-add}
use native.Mathlib.Omega.{arith}
use mathlib.Core.List.{List, [], ◌∷◌, ◌++◌, map}
use lib.ListN.{replicate, length-replicate, length-map}
use mir.Val.{Val}
use denote.RattleType.{RattleType}
use denote.Shadow.{shadow}
use denote.Laws.{Is}
use denote.Array.{Array, array_val, each}
use denote.Struct.Field.{array_field}
use denote.Struct.Declared.{Declared, row, field}

pub replicate-sum : {A : Type 0} (k m : ℕ) (x : A) → replicate (k + m) x ≡ replicate k x ++ replicate m x
replicate-sum {A} zero m x = ap (λ (j : ℕ). replicate j x) (zero-add m)
replicate-sum {A} (suc k) m x = ap (λ (j : ℕ). replicate j x) (suc-add k m) ∙ ap (λ (l : List A). x ∷ l) (replicate-sum k m x)

pub replicate_cut : {A : Type 0} (k n : ℕ) (x : A) → k ≤ n → replicate n x ≡ replicate k x ++ replicate (n - k) x
replicate_cut k n x h = let whole : n ≡ k + (n - k) = omega arith in ap (λ (j : ℕ). replicate j x) whole ∙ replicate-sum k (n - k) x

module _ (R : RattleType) (x : R.Denot) (v : Val) (is : Is R x (v ∷ [])) where
  each_is : (n : ℕ) → shadow (each R.Denot R.own_val (replicate n x) (replicate n v))
  each_is zero = tt
  each_is (suc n) = (is, each_is n)

  pub array_is : (n : ℕ) → Is (Array R n) (replicate n x) (array_val (replicate n v) ∷ [])
  array_is n = (replicate n v, ((refl, length-replicate n x), each_is n))

module _ (T : Declared) where
  each_in : (xs : List T.D) (us : List Val) → shadow (each T.D (row T).own_val xs us) → shadow (each (field T).row.Denot (field T).row.own_val (map T.to xs) us)
  each_in [] [] s = tt
  each_in [] (u ∷ us) s = absurd s
  each_in (x ∷ xs) [] s = absurd s
  each_in (x ∷ xs) (u ∷ us) s = (s.0, each_in xs us s.1)

  -- an array of structs, as a field
  pub field_is : (n : ℕ) (xs : List T.D) (vs : List Val) → Is (Array (row T) n) xs vs → Is (array_field (field T) n).row (map T.to xs) vs
  field_is n xs vs p = (p.0, ((p.1.0.0, length-map xs T.to ∙ p.1.0.1), each_in xs p.0 p.1.1))
