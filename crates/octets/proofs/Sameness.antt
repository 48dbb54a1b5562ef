-- Laws of `same`: it is the equation of two lists, and the library's `==`.
use Prim.Native.Nat.{ℕ}
use mathlib.Core.Path.{◌≡◌, refl, ap}
use mathlib.Core.List.{List, [], ◌∷◌}
use mathlib.Core.Bool.{Bool, true, false, ◌&&◌}
use lib.Dec.{eqb}
use lib.Pointwise.{pointwise}
use Rattle.std.specs.Bool.{Decides}
use Rattle.std.proofs.lemmas.Slice.Eq.{compares_Decides}
use borrow.Author.Rules.{rules}
use Rattle.std.proofs.lemmas.Bool.Decides.{same_from_decides}
use Rattle.octets.specs.Octets.{same}

pub pointwise_same : (a b : List ℕ) → pointwise eqb a b ≡ same a b
unfolding same
pointwise_same [] [] = refl
pointwise_same [] (y ∷ b) = refl
pointwise_same (x ∷ a) [] = refl
pointwise_same (x ∷ a) (y ∷ b) = ap (λ (v : Bool). eqb x y && v) (pointwise_same a b)

same_decides : (a b : List ℕ) → Decides (same a b) (a ≡ b)
unfolding same
same_decides = compares_Decides same (search rules)

pub eq_same : (a b : List ℕ) → a ≡ b → same a b ≡ true
eq_same a b e = (same_decides a b).1 e

pub ne_same : (a b : List ℕ) → (a ≡ b → ⊥) → same a b ≡ false
ne_same a b h = same_from_decides (same a b) false (same_decides a b) (λ e. cc, λ e. absurd (h e))
