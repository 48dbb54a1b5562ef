-- Laws of `in_room`: a cut is written behind those taken, and the first so many of the room are those taken.
use Rattle.std.proofs.Common.{◌≡◌, ℕ, suc, ◌+◌, ◌-◌, ◌≤◌, ◌<◌, true, List, [], ◌∷◌, ◌++◌, length, take, replicate, ◌∙◌, ap, sym, refl, arith, length-append}
use Rattle.std.proofs.Math.ListN.{set}
use Rattle.std.proofs.Math.Seq.{take-append_seam, set-append_seam, append_snoc}
use Rattle.form.specs.Cutting.{in_room, Laid}
use Rattle.form.specs.Form.{cut_in, none_zero, first_cuts}
use Rattle.form.proofs.Zeros.{length-first_cuts, next_cut, cutting_first}

take-in_room : (n : ℕ) (l : List ℕ) → length l ≡ n → take n (in_room l) ≡ l
take-in_room n l e = ap (λ (k : ℕ). take k (in_room l)) (sym e) ∙ take-append_seam l (replicate (64 - length l) 0)

set-in_room : (l : List ℕ) (i x : ℕ) → length l ≡ i → i < 64 → set (in_room l) i x ≡ in_room (l ++ (x ∷ []))
set-in_room l i x e h =
    let more : 64 - length l ≡ suc (63 - i) = omega arith in
    let fewer : 64 - length (l ++ (x ∷ [])) ≡ 63 - i = simp length-append (omega arith) in
    ap (λ (k : ℕ). set (l ++ replicate k 0) i x) more
    ∙ ap (λ (k : ℕ). set (l ++ (0 ∷ replicate (63 - i) 0)) k x) (sym e)
    ∙ set-append_seam l 0 (replicate (63 - i) 0) x
    ∙ sym (append_snoc l x (replicate (63 - i) 0))
    ∙ ap (λ (k : ℕ). (l ++ (x ∷ [])) ++ replicate k 0) (sym fewer)

module _ (s : List ℕ) (at : ℕ) where
  -- one cut more
  pub next_in_room : (i x : ℕ) (l : List ℕ) → l ≡ in_room (first_cuts s at i) → x ≡ cut_in s at i → i < 64 → set l i x ≡ in_room (first_cuts s at (i + 1))
  next_in_room i x l e k h =
      ap (λ (m : List ℕ). set m i x) e
      ∙ set-in_room (first_cuts s at i) i x (length-first_cuts s at i) h
      ∙ ap in_room (next_cut s at i x _ _ refl k refl)

  module _ (n : ℕ) (l : List ℕ) (e : l ≡ in_room (first_cuts s at n)) where
    pub first_in_room : take n l ≡ first_cuts s at n
    first_in_room = ap (take n) e ∙ take-in_room n (first_cuts s at n) (length-first_cuts s at n)

    pub laid_first : none_zero s at n ≡ true → n ≤ 64 → Laid n l
    laid_first some few =
        record {
          cutting = cutting_first s at n _ first_in_room some few;
          counted = ap length first_in_room ∙ length-first_cuts s at n;
          blank = ap in_room first_in_room ∙ sym e;
        }
