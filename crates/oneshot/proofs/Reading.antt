-- Numbers and parts read from a source whose end may be near.
use Prim.Native.Nat.{ℕ, ◌+◌, ◌-◌, ◌≤◌, min}
use mathlib.Core.Bool.{Bool, true, false}
use mathlib.Core.List.{List, [], ◌∷◌}
use mathlib.Core.Option.{none}
use mathlib.Core.Path.{◌≡◌, refl, sym, ap, ◌∙◌}
use native.Mathlib.Omega.{arith}
use lib.ListN.{length, get_or, take, drop, length-drop, drop_of_length-le}
use lib.Dec.{leb}
use lib.Seq.{take_all, take-nil, take-take, get_or-drop, drop-drop}
use borrow.Author.Tests.{leb-true, leb-false}
use Rattle.octets.specs.Octets.{little_endian}
use Rattle.streaming.specs.Choose.{when◌then◌else◌}
use Rattle.account.specs.Statement.{part}
use Rattle.rules.specs.Prologue.{reading, prologue_of}
use Rattle.rules.specs.Object.{size_of_words, size_at}
use Rattle.rules.proofs.Main.{sixteen_enough}

-- ---- two bytes

-- bytes that are not there add nothing to a number whose lowest byte comes first
little_front : (l : List ℕ) → little_endian (take 2 l) ≡ little_endian (get_or l 0 0 ∷ get_or l 1 0 ∷ [])
unfolding little_endian
little_front [] = refl
little_front (a ∷ []) = refl
little_front (a ∷ b ∷ l) = refl

pub little_two : (src : List ℕ) (at : ℕ) → little_endian (part src at 2) ≡ little_endian (get_or src at 0 ∷ get_or src (at + 1) 0 ∷ [])
little_two src at =
    let z : at + 0 ≡ at = omega arith in
    little_front (drop at src) ∙ rw (get_or-drop at src 0 0, get_or-drop at src 1 0, z)

-- ---- from a place on

-- all that there is
pub all-behind : (src : List ℕ) (at : ℕ) → take (length src - at) (drop at src) ≡ drop at src
all-behind src at = take_all (length src - at) (drop at src) (simp length-drop (omega arith))

pub part-on : (src : List ℕ) (at m n : ℕ) → part (drop at src) m n ≡ part src (at + m) n
part-on src at m n = ap (take n) (drop-drop m at src)

-- ---- the size words

behind_two : (l : List ℕ) → drop 2 (take 4 l) ≡ take 2 (drop 2 l)
behind_two [] = refl
behind_two (a ∷ []) = refl
behind_two (a ∷ b ∷ l) = refl

pub words_at : (src : List ℕ) (at : ℕ) → size_at src at ≡ size_of_words (little_endian (part src at 2)) (little_endian (part src (at + 2) 2))
unfolding size_at
words_at src at = rw (take-take 2 4 (drop at src) (omega arith), behind_two (drop at src), drop-drop 2 at src)

-- ---- the head of some data

-- no more of a part is looked at than the source has
part-least : (src : List ℕ) (at n : ℕ) → part src at (min n (length src - at)) ≡ part src at n
part-least src at n = split (leb n (length src - at)) refl
  where
    split : (b : Bool) → leb n (length src - at) ≡ b → part src at (min n (length src - at)) ≡ part src at n
    split true e = let m : min n (length src - at) ≡ n = omega (arith, leb-true n (length src - at) e) in rw m
    split false e =
        let m : length (drop at src) ≤ min n (length src - at) = simp length-drop (omega (arith, leb-false n (length src - at) e)) in
        let k : length (drop at src) ≤ n = simp length-drop (omega (arith, leb-false n (length src - at) e)) in
        take_all _ (drop at src) m ∙ sym (take_all n (drop at src) k)

pub head_least : (r2000 : Bool) (src : List ℕ) (at n : ℕ)
    → prologue_of r2000 (part src at (min n (length src - at))) ≡ prologue_of r2000 (take 16 (part src at n))
head_least r2000 src at n = ap (prologue_of r2000) (part-least src at n) ∙ sym (sixteen_enough r2000 (part src at n))

pub head_none : (r2000 : Bool) (src : List ℕ) (at n : ℕ) → length src ≤ at → prologue_of r2000 (take 16 (part src at n)) ≡ none
unfolding prologue_of reading when◌then◌else◌
head_none r2000 src at n h = sym (head_least r2000 src at n) ∙ rw (drop_of_length-le src h, take-nil {A = ℕ} (min n (length src - at)))
