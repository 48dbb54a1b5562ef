-- Laws of a part of a source: its length, its first and its last byte, its bytes one by one, and its parts.
use Prim.Native.Nat.{ℕ, suc, ◌+◌, ◌-◌, ◌≤◌, ◌<◌}
use mathlib.Core.List.{List, [], ◌∷◌, ◌++◌}
use mathlib.Core.Bool.{Bool, true, false}
use mathlib.Core.Logic.{◌⊎◌, inl, inr}
use mathlib.Core.Path.{◌≡◌, refl, sym, ap, ap₂, ◌∙◌}
use native.Mathlib.Omega.{arith}
use lib.ListN.{length, drop, get_or, length-take, length-drop}
use lib.Dec.{eqb}
use borrow.Author.Tests.{eqb-true, eqb-false}
use lib.Seq.{take-suc, take-add, drop-cons, drop-drop, drop_at, get_or-drop}
use Rattle.account.specs.Statement.{part}

pub length_part : (src : List ℕ) (at n : ℕ) → n ≤ length src - at → length (part src at n) ≡ n
length_part src at n h = simp (length-take, length-drop) (omega arith)

-- what has the source's bytes at a place lies inside it
pub part-inside : (src : List ℕ) (at : ℕ) (p : List ℕ) → p ≡ part src at (length p) → 0 < length p → at + length p ≤ length src
part-inside src at p e h = omega (arith, simp (length-take, length-drop) at (ap length e))

pub part_cons : (src : List ℕ) (at n : ℕ) → at < length src → part src at (suc n) ≡ get_or src at 0 ∷ part src (suc at) n
part_cons src at n h = rw (drop-cons src at 0 h)

pub part_snoc : (src : List ℕ) (at n : ℕ) → at + n < length src → part src at (suc n) ≡ part src at n ++ (get_or src (at + n) 0 ∷ [])
part_snoc src at n h = let k : n < length (drop at src) = simp length-drop (omega arith) in rw (take-suc (drop at src) n 0 k, get_or-drop)

-- a piece has the source's bytes from a place on, byte by byte
abbrev pub Read : List ℕ → ℕ → List ℕ → Type 0
Read src at [] = Unit {0}
Read src at (b ∷ bs) = (at < length src) × (b ≡ get_or src at 0) × Read src (suc at) bs

pub read_part : (src : List ℕ) (at : ℕ) (p : List ℕ) → p ≡ part src at (length p) → Read src at p
read_part src at [] e = tt
read_part src at (b ∷ bs) e = (h, cc e', read_part src (suc at) bs (cc e'))
  where
    h : at < length src
    h = omega (arith, part-inside src at (b ∷ bs) e (omega arith))

    e' : b ∷ bs ≡ get_or src at 0 ∷ part src (suc at) (length bs)
    e' = rw (part_cons src at (length bs) h) at e

-- a part in two
pub part_add : (src : List ℕ) (at d k : ℕ) → part src at d ++ part src (at + d) k ≡ part src at (d + k)
part_add src at d k = sym (take-add d k (drop at src) ∙ rw drop-drop)

pub part-drop : (src : List ℕ) (at m n : ℕ) → m ≤ n → at + n ≤ length src → drop m (part src at n) ≡ part src (at + m) (n - m)
part-drop src at m n h k =
    let x : n ≡ m + (n - m) = omega arith in
    let y : part src at n ≡ part src at m ++ part src (at + m) (n - m) = ap (part src at) x ∙ sym (part_add src at m (n - m)) in
    rw y (drop_at (part src at m) _ m (length_part src at m (omega arith)))

-- two lists of bytes are the same, or not
abbrev pub same_cons : (x y : ℕ) (xs ys : List ℕ) (b : Bool) → eqb x y ≡ b → (xs ≡ ys) ⊎ (xs ≡ ys → ⊥) → (x ∷ xs ≡ y ∷ ys) ⊎ (x ∷ xs ≡ y ∷ ys → ⊥)
same_cons x y xs ys false e s = inr (λ q. eqb-false x y e (cc q))
same_cons x y xs ys true e (inl s) = inl (ap₂ (λ (z : ℕ) (zs : List ℕ). z ∷ zs) (eqb-true x y e) s)
same_cons x y xs ys true e (inr s) = inr (λ q. s (cc q))

abbrev pub same_or_not : (xs ys : List ℕ) → (xs ≡ ys) ⊎ (xs ≡ ys → ⊥)
same_or_not [] [] = inl refl
same_or_not [] (y ∷ ys) = inr (λ e. let z : ◌≡◌ {A = ℕ} 0 1 = cc in omega arith)
same_or_not (x ∷ xs) [] = inr (λ e. let z : ◌≡◌ {A = ℕ} 0 1 = cc in omega arith)
same_or_not (x ∷ xs) (y ∷ ys) = same_cons x y xs ys (eqb x y) refl (same_or_not xs ys)
