-- A list that is overwritten place by place from its front, for any type of values: what a loop that fills it does, turn by turn.
use mathlib.Core.Path.{◌≡◌, refl, sym, ap, ◌∙◌}
use mathlib.Core.List.{List, ◌∷◌, ◌++◌}
use Prim.Native.Nat.{ℕ, zero, suc, ◌≤◌, ◌<◌}
use native.Mathlib.Omega.{arith}
use lib.ListN.{length, set, take, drop, get_or, length-set}
use Rattle.std.proofs.lemmas.List.{take-append-drop, set-append_left}
use lib.Seq.{length-take-le, take-suc, take-length, drop-cons, set_at, append_snoc}

module _ {A : Type 0} (f : ℕ → A) where
  -- places 0 to i - 1 hold f 0 to f (i - 1)
  abbrev pub over : ℕ → List A → List A
  over zero xs = xs
  over (suc i) xs = set (over i xs) i (f i)

  pub over-length : (i : ℕ) (xs : List A) → length (over i xs) ≡ length xs
  over-length zero xs = refl
  over-length (suc i) xs = length-set (over i xs) i (f i) ∙ over-length i xs

  -- where only the front is at hand, the rest stays
  pub over_take : (n : ℕ) (xs : List A) (i : ℕ) → i ≤ n → n ≤ length xs → over i (take n xs) ++ drop n xs ≡ over i xs
  over_take n xs zero h k = take-append-drop n xs
  over_take n xs (suc i) h k =
      let m : length (over i (take n xs)) ≡ n = over-length i (take n xs) ∙ length-take-le n xs k in
      sym (set-append_left (over i (take n xs)) (drop n xs) i (f i) (omega (arith, m))) ∙ ap (λ (ys : List A). set ys i (f i)) (over_take n xs i (omega arith) k)

  module _ (d : A) (l xs : List A) (are : (i : ℕ) → i < length l → f i ≡ get_or l i d) (room : length l ≤ length xs) where
    over_front : (n : ℕ) → n ≤ length l → over n xs ≡ take n l ++ drop n xs
    over_front zero h = refl
    over_front (suc n) h =
        ap (λ (ys : List A). set ys n (f n)) (over_front n (omega arith) ∙ ap (λ (ys : List A). take n l ++ ys) (drop-cons xs n (f n) (omega arith)))
        ∙ set_at (take n l) (get_or xs n (f n)) (drop (suc n) xs) (f n) n (length-take-le n l (omega arith))
        ∙ ap (λ (a : A). take n l ++ a ∷ drop (suc n) xs) (are n h)
        ∙ sym (append_snoc (take n l) (get_or l n d) (drop (suc n) xs))
        ∙ ap (λ (ys : List A). ys ++ drop (suc n) xs) (sym (take-suc l n d h))

    -- where those are the elements of a list: that list in place of the front
    pub over_is : over (length l) xs ≡ l ++ drop (length l) xs
    over_is = over_front (length l) (omega arith) ∙ ap (λ (ys : List A). ys ++ drop (length l) xs) (take-length l)
