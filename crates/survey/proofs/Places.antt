-- Laws of parts of a source that is in hand whole: what lies behind its end, and the front of a front.
use Prim.Native.Nat.{ℕ, ◌-◌, min, ◌≤◌, ◌<◌}
use mathlib.Core.Bool.{Bool, true, false}
use mathlib.Core.List.{List, []}
use mathlib.Core.Path.{◌≡◌, refl, sym, ◌∙◌}
use native.Mathlib.Omega.{arith}
use lib.ListN.{length, take, drop, length-take, length-drop, drop_of_length-le}
use lib.Seq.{take_all, take-nil, take-take}
use lib.Dec.{leb}
use borrow.Author.Tests.{leb-true, leb-false}
use Rattle.account.specs.Statement.{part}

module _ (src : List ℕ) (at end : ℕ) where
  -- nothing stands behind the source's end, nor before a part's start
  pub part-behind : min end (length src) ≤ at → part src at (end - at) ≡ []
  part-behind h = split (leb (length src) at) refl
    where
      split : (b : Bool) → leb (length src) at ≡ b → part src at (end - at) ≡ []
      split true e = rw (drop_of_length-le src (leb-true (length src) at e)) (take-nil {A = ℕ} (end - at))
      split false e = let z : end - at ≡ 0 = omega (arith, leb-false (length src) at e) in rw z

  -- a part ends where the source does
  pub part_cut : (stop : ℕ) → stop ≡ min end (length src) → part src at (end - at) ≡ part src at (stop - at)
  part_cut stop s = split (leb end (length src)) refl
    where
      split : (b : Bool) → leb end (length src) ≡ b → part src at (end - at) ≡ part src at (stop - at)
      split true e = let k : end ≡ stop = omega (arith, leb-true end (length src) e) in rw k
      split false e =
          let h : length src < end = leb-false end (length src) e in
          let n : length (drop at src) ≤ stop - at = simp length-drop (omega arith) in
          let m : length (drop at src) ≤ end - at = simp length-drop (omega arith) in
          take_all (end - at) (drop at src) m ∙ sym (take_all (stop - at) (drop at src) n)

-- ---- the front of a front

pub take_min : (k n : ℕ) (l : List ℕ) → take k (take n l) ≡ take (min n k) l
take_min k n l = split (leb k n) refl
  where
    split : (b : Bool) → leb k n ≡ b → take k (take n l) ≡ take (min n k) l
    split true e = let h : k ≤ n = leb-true k n e in let m : min n k ≡ k = omega arith in rw m (take-take k n l h)
    split false e =
        let h : n < k = leb-false k n e in
        let m : min n k ≡ n = omega arith in
        rw m (take_all k (take n l) (simp length-take (omega arith)))
