-- Laws of `sets`, bytes put in place of others: some bytes more, and the front of a list.
use Prim.Native.Nat.{ℕ, suc, ◌+◌, ◌-◌, ◌<◌, ◌≤◌}
use mathlib.Core.Bool.{Bool, true, false}
use mathlib.Core.Path.{◌≡◌, refl, ap, sym, ◌∙◌}
use mathlib.Core.List.{List, [], ◌∷◌, ◌++◌, append_assoc}
use lib.ListN.{length, set, take, drop}
use lib.Seq.{sets, take_all, take_at, take-append-le, take-append-add, sets-eq, drop-drop}
use lib.Dec.{leb}
use borrow.Rule.Slice.PartMut.{put_mid}
use borrow.Author.Tests.{leb-true, leb-false}
use native.Mathlib.Nat.{add-zero, add-suc, suc-add}
use native.Mathlib.Omega.{arith}

pub sets-append : (l : List ℕ) (i : ℕ) (a b : List ℕ) → sets (sets l i a) (i + length a) b ≡ sets l i (a ++ b)
sets-append l i [] b = rw add-zero
sets-append l i (v ∷ vs) b = rw (add-suc, ← suc-add) (sets-append (set l i v) (suc i) vs b)

-- a copy, as a write to a part leaves it
pub sets_mid : (l : List ℕ) (at : ℕ) (src part : List ℕ) → at + length src ≤ length l → part ≡ src
    → put_mid at (at + length src - at) l part ≡ sets l at src
sets_mid l at src part h e =
    let k : at + length src - at ≡ length src = omega arith in
    rw (e, k, sets-eq src l at h, drop-drop, append_assoc)

-- what was put at the front stands there
pub take-sets : (l a : List ℕ) (n : ℕ) → length a ≡ n → n ≤ length l → take n (sets l 0 a) ≡ a
take-sets l a n e h = rw (sets-eq a l 0 (omega arith)) (take_at a (drop (0 + length a) l) n e)

-- of all the bytes that come, the first n are kept
pub sets_front : (l : List ℕ) (n : ℕ) (a b : List ℕ) → sets (sets l 0 (take n a)) (length a) (take (n - length a) b) ≡ sets l 0 (take n (a ++ b))
sets_front l n a b = split (leb (length a) n) refl
  where
    split : (v : Bool) → leb (length a) n ≡ v → sets (sets l 0 (take n a)) (length a) (take (n - length a) b) ≡ sets l 0 (take n (a ++ b))
    split true v =
        let h : length a ≤ n = leb-true (length a) n v in
        let m : n ≡ length a + (n - length a) = omega arith in
        rw (take_all n a h)
        (ap (λ (k : ℕ). sets (sets l 0 a) k (take (n - length a) b)) (omega arith) ∙ sets-append l 0 a (take (n - length a) b)
        ∙ ap (sets l 0) (sym (take-append-add a b (n - length a)) ∙ ap (λ (k : ℕ). take k (a ++ b)) (sym m)))
    split false v =
        let h : n < length a = leb-false (length a) n v in
        let m : n - length a ≡ 0 = omega arith in rw (m, take-append-le n a b (omega arith))
