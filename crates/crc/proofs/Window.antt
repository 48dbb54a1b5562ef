-- A list of known length is the list of its elements: so a group of eight bytes is the xor of what was looked up for them.
use mathlib.Core.Path.{◌≡◌, sym, ap, ◌∙◌}
use mathlib.Core.List.{List, [], ◌∷◌}
use Prim.Native.Nat.{ℕ, zero, suc, ◌+◌, ◌/◌, ◌%◌, ◌^◌, ◌<◌}
use native.Mathlib.Omega.{arith}
use lib.Bits.{bit_xor, xor_lt, xor_zero_r}
use lib.ListN.{length, get_or, drop, drop_of_length-le}
use lib.Seq.{drop-cons}
use Rattle.std.specs.Int.Bits.{xor_assoc}
use Rattle.std.specs.Int.{w16, to_le_bytes}
use Rattle.std.proofs.Common.{lit<}
use Rattle.crc.specs.Crc.{crc_of}
use Rattle.crc.specs.Rows.{Table}
use Rattle.crc.proofs.Algebra.{Bytes, rows_of, crc_group}

module _ (s : List ℕ) where
  -- the n elements from i on
  abbrev elements : (n i : ℕ) → List ℕ
  elements zero i = []
  elements (suc n) i = get_or s i 0 ∷ elements n (suc i)

  elements_all : (n i : ℕ) → i + n ≡ length s → drop i s ≡ elements n i
  elements_all zero i e = drop_of_length-le s {i = i} (omega arith)
  elements_all (suc n) i e = drop-cons s i 0 (omega arith) ∙ ap (λ (l : List ℕ). get_or s i 0 ∷ l) (elements_all n (suc i) (omega arith))

  -- eight bytes, from the entries that were looked up for them
  pub looked_up : (rows : List (List ℕ)) (state : List ℕ) (c : ℕ) → Table rows → length s ≡ 8 → Bytes s → c < 2 ^ 16 → state ≡ to_le_bytes w16 c
      → {x7 x6 x5 x4 x3 x2 x1 x0 : ℕ}
      → x7 ≡ bit_xor (get_or s 0 0) (get_or state 0 0) → x6 ≡ bit_xor (get_or s 1 0) (get_or state 1 0) → x5 ≡ get_or s 2 0 → x4 ≡ get_or s 3 0
      → x3 ≡ get_or s 4 0 → x2 ≡ get_or s 5 0 → x1 ≡ get_or s 6 0 → x0 ≡ get_or s 7 0
      → bit_xor (bit_xor (bit_xor (bit_xor (bit_xor (bit_xor (bit_xor (get_or (get_or rows 7 []) x7 0) (get_or (get_or rows 6 []) x6 0))
      (get_or (get_or rows 5 []) x5 0)) (get_or (get_or rows 4 []) x4 0)) (get_or (get_or rows 3 []) x3 0)) (get_or (get_or rows 2 []) x2 0))
      (get_or (get_or rows 1 []) x1 0)) (get_or (get_or rows 0 []) x0 0) ≡ crc_of c s
  unfolding rows_of
  looked_up rows state c t n ok hc es e7 e6 e5 e4 e3 e2 e1 e0 =
      let whole : s ≡ elements 8 0 = elements_all 8 0 (sym n) in
      let high : c / 256 % 256 ≡ c / 256 = omega arith in
      let f7 = rw es at e7 in
      let f6 = rw high at (rw es at e6) in
      let l7 : bit_xor (get_or s 0 0) (c % 256) < 256 = xor_lt 8 _ _ (ok 0) (omega arith) in
      let l6 : bit_xor (get_or s 1 0) (c / 256) < 256 = xor_lt 8 _ _ (ok 1) (omega arith) in
      rw (f7, f6, e5, e4, e3, e2, e1, e0)
      (rw (t.rule 7 _ (lit< tt) l7, t.rule 6 _ (lit< tt) l6, t.rule 5 _ (lit< tt) (ok 2), t.rule 4 _ (lit< tt) (ok 3), t.rule 3 _ (lit< tt) (ok 4), t.rule 2 _ (lit< tt) (ok 5), t.rule 1 _ (lit< tt) (ok 6), t.rule 0 _ (lit< tt) (ok 7))
      (simp xor_assoc (sym (ap (crc_of c) whole
      ∙ crc_group c (get_or s 0 0) (get_or s 1 0) (elements 6 2) (λ i. rw (← whole) (ok i))
      ∙ rw xor_zero_r))))
