-- The table's rule at all of its 2,048 entries, by one computed test: row 0 goes by its index, and each other row by the row before it.
use mathlib.Core.Path.{◌≡◌, refl, ◌∙◌, subst, sym, ap}
use mathlib.Core.Bool.{Bool, true, false, ◌&&◌}
use mathlib.Core.List.{List, [], ◌∷◌}
use Prim.Native.Nat.{ℕ, zero, suc, ◌+◌, ◌<◌}
use native.Mathlib.Nat.{add-zero, zero-add, add-suc, suc-add, le_of_suc-le-suc, not-suc-le-zero}
use lib.Dec.{T, eqb, eqb→eq}
use lib.ListN.{length, get_or}
use Rattle.crc.specs.Crc.{crc_byte}
use Rattle.crc.specs.Rows.{row_of, Table}

left : (a b : Bool) → T (a && b) → T a
left true b t = tt
left false b t = t

right : (a b : Bool) → T (a && b) → T b
right true b t = t
right false b t = absurd t

-- row 0, from place i on
abbrev first : ℕ → List ℕ → Bool
first i [] = true
first i (x ∷ xs) = eqb x (row_of 0 i) && first (suc i) xs

-- a row and the one after it: as long, and each entry after one more zero byte
abbrev next : List ℕ → List ℕ → Bool
next [] [] = true
next [] (y ∷ ys) = false
next (x ∷ xs) [] = false
next (x ∷ xs) (y ∷ ys) = eqb y (crc_byte x 0) && next xs ys

abbrev rest : List ℕ → List (List ℕ) → Bool
rest r [] = true
rest r (s ∷ t) = next r s && rest s t

abbrev right_table : List (List ℕ) → Bool
right_table [] = false
right_table (r ∷ t) = eqb (length t) 7 && (eqb (length r) 256 && (first 0 r && rest r t))

first_at : (i : ℕ) (r : List ℕ) → T (first i r) → (k : ℕ) → k < length r → get_or r k 0 ≡ row_of 0 (i + k)
first_at i [] p k h = absurd (not-suc-le-zero h)
first_at i (x ∷ xs) p zero h = eqb→eq x (row_of 0 i) (left (eqb x (row_of 0 i)) (first (suc i) xs) p) ∙ ap (row_of 0) (sym (add-zero i))
first_at i (x ∷ xs) p (suc k) h =
    first_at (suc i) xs (right (eqb x (row_of 0 i)) (first (suc i) xs) p) k (le_of_suc-le-suc h) ∙ ap (row_of 0) (suc-add i k ∙ sym (add-suc i k))

next_at : (r s : List ℕ) → T (next r s) → (k : ℕ) → k < length r → get_or s k 0 ≡ crc_byte (get_or r k 0) 0
next_at [] s p k h = absurd (not-suc-le-zero h)
next_at (x ∷ xs) [] p k h = absurd p
next_at (x ∷ xs) (y ∷ ys) p zero h = eqb→eq y (crc_byte x 0) (left (eqb y (crc_byte x 0)) (next xs ys) p)
next_at (x ∷ xs) (y ∷ ys) p (suc k) h = next_at xs ys (right (eqb y (crc_byte x 0)) (next xs ys) p) k (le_of_suc-le-suc h)

next_length : (r s : List ℕ) → T (next r s) → length r ≡ length s
next_length [] [] p = refl
next_length [] (y ∷ ys) p = absurd p
next_length (x ∷ xs) [] p = absurd p
next_length (x ∷ xs) (y ∷ ys) p = ap suc (next_length xs ys (right (eqb y (crc_byte x 0)) (next xs ys) p))

-- where a row is right, so is the one after it
next_right : (j : ℕ) (r s : List ℕ) → T (next r s) → ((i : ℕ) → i < length r → get_or r i 0 ≡ row_of j i) → length r ≡ length s
    → (i : ℕ) → i < length s → get_or s i 0 ≡ row_of (suc j) i
unfolding row_of
next_right j r s p ok same i h =
    let h' = subst (λ (n : ℕ). i < n) (sym same) h in
    next_at r s p i h' ∙ ap (λ (x : ℕ). crc_byte x 0) (ok i h')

-- rows j, j + 1, .. , where row j is right
rows_at : (j : ℕ) (r : List ℕ) (t : List (List ℕ)) → T (rest r t) → ((i : ℕ) → i < length r → get_or r i 0 ≡ row_of j i)
    → (k i : ℕ) → k < length (r ∷ t) → i < length r → get_or (get_or (r ∷ t) k []) i 0 ≡ row_of (j + k) i
rows_at j r t p ok zero i hk hi = ok i hi ∙ ap (λ (m : ℕ). row_of m i) (sym (add-zero j))
rows_at j r [] p ok (suc k) i hk hi = absurd (not-suc-le-zero (le_of_suc-le-suc hk))
rows_at j r (s ∷ t) p ok (suc k) i hk hi =
    let l = left (next r s) (rest s t) p in
    let same = next_length r s l in
    rows_at (suc j) s t (right (next r s) (rest s t) p) (next_right j r s l ok same) k i (le_of_suc-le-suc hk) (subst (λ (n : ℕ). i < n) same hi)
    ∙ ap (λ (m : ℕ). row_of m i) (suc-add j k ∙ sym (add-suc j k))

pub right_table_lem : (t : List (List ℕ)) → T (right_table t) → Table t
right_table_lem [] p = absurd p
right_table_lem (r ∷ t) p =
    let p₁ = right (eqb (length t) 7) (eqb (length r) 256 && (first 0 r && rest r t)) p in
    let p₂ = right (eqb (length r) 256) (first 0 r && rest r t) p₁ in
    let size = eqb→eq (length t) 7 (left (eqb (length t) 7) (eqb (length r) 256 && (first 0 r && rest r t)) p) in
    let wide = eqb→eq (length r) 256 (left (eqb (length r) 256) (first 0 r && rest r t) p₁) in
    record {
      rule = λ k i hk hi.
          rows_at 0 r t (right (first 0 r) (rest r t) p₂)
          (λ i h. first_at 0 r (left (first 0 r) (rest r t) p₂) i h ∙ ap (row_of 0) (zero-add i))
          k i (subst (λ (n : ℕ). k < suc n) (sym size) hk) (subst (λ (n : ℕ). i < n) (sym wide) hi)
          ∙ ap (λ (m : ℕ). row_of m i) (zero-add k);
    }
