-- Laws of the first cuts: how many they are, and that none of them is 0 where `none_zero` says so.
use Rattle.std.proofs.Common.{◌≡◌, ℕ, zero, suc, ◌+◌, ◌≤◌, ◌<◌, true, false, Bool, List, [], ◌∷◌, ◌++◌, length, get_or, ◌∙◌, ap, sym, refl, arith, length-append, add-one, ltb}
use Rattle.std.proofs.lemmas.Bool.{and_parts, ltb-true, ltb-false, lt-ltb}
use Rattle.form.specs.Cutting.{Cutting}
use Rattle.form.specs.Form.{cut_in, none_zero, first_cuts}
use lib.ListN.{get_or-append}
use lib.Seq.{get_or-append_seam}

module _ (s : List ℕ) (at : ℕ) where
  pub length-first_cuts : (n : ℕ) → length (first_cuts s at n) ≡ n
  unfolding first_cuts
  length-first_cuts zero = refl
  length-first_cuts (suc n) = simp length-append (omega (arith, length-first_cuts n))

  -- each of them is above 0
  pub each-some : (n i : ℕ) → i < n → none_zero s at n ≡ true → 0 < cut_in s at i
  unfolding none_zero
  each-some zero i h e = absurd (omega arith)
  each-some (suc n) i h e =
      split (ltb i n) refl (λ k. each-some n i k (and_parts _ _ e).0) (and_parts _ _ e).1
    where
      split : (b : Bool) → ltb i n ≡ b → (i < n → 0 < cut_in s at i) → ltb 0 (cut_in s at n) ≡ true → 0 < cut_in s at i
      split true v before last = before (ltb-true i n v)
      split false v before last = let k : i ≡ n = omega (arith, ltb-false i n v) in rw k (ltb-true 0 (cut_in s at n) last)

  -- the cut of an index, in the list of them
  pub get_or-first_cuts : (n i : ℕ) → i < n → get_or (first_cuts s at n) i 0 ≡ cut_in s at i
  unfolding first_cuts
  get_or-first_cuts zero i h = absurd (omega arith)
  get_or-first_cuts (suc n) i h = split (ltb i n) refl (λ k. get_or-first_cuts n i k)
    where
      split : (b : Bool) → ltb i n ≡ b → (i < n → get_or (first_cuts s at n) i 0 ≡ cut_in s at i)
          → get_or (first_cuts s at n ++ (cut_in s at n ∷ [])) i 0 ≡ cut_in s at i
      split true v before =
          let k : i < n = ltb-true i n v in
          get_or-append (first_cuts s at n) (cut_in s at n ∷ []) 0 i (omega (arith, length-first_cuts n)) ∙ before k
      split false v before =
          let e : length (first_cuts s at n) ≡ i = omega (arith, length-first_cuts n, ltb-false i n v) in
          let k : i ≡ n = omega (arith, ltb-false i n v) in
          ap (λ (x : ℕ). get_or (first_cuts s at n ++ (cut_in s at n ∷ [])) x 0) (sym e)
          ∙ get_or-append_seam (first_cuts s at n) (cut_in s at n) [] 0
          ∙ ap (cut_in s at) (sym k)

  -- one cut more
  pub next_cut : (i size : ℕ) (l m : List ℕ) → l ≡ first_cuts s at i → size ≡ cut_in s at i → m ≡ l ++ (size ∷ []) → m ≡ first_cuts s at (i + 1)
  unfolding first_cuts
  next_cut i size l m e k h = rw add-one (cc)

  pub next_some : (i size : ℕ) → none_zero s at i ≡ true → size ≡ cut_in s at i → (size ≡ 0 → ⊥) → none_zero s at (i + 1) ≡ true
  unfolding none_zero
  next_some i size e k h = rw (add-one, e, lt-ltb 0 (cut_in s at i) (omega arith))

  pub cutting_first : (n : ℕ) (l : List ℕ) → l ≡ first_cuts s at n → none_zero s at n ≡ true → n ≤ 64 → Cutting l
  cutting_first n l e some few =
      let long : length l ≡ n = rw e (length-first_cuts n) in
      record {
        few = omega arith;
        some = λ i h. omega (arith, each-some n i (omega arith) some, rw (← e) at (get_or-first_cuts n i (omega arith)));
      }
