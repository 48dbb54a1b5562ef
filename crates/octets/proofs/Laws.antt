-- Laws of the numbers that bytes make: their range, and that the library reads the same number.
use mathlib.Core.Path.{◌≡◌, refl, ap, ◌∙◌}
use mathlib.Core.List.{List, [], ◌∷◌, ◌++◌}
use Prim.Native.Nat.{ℕ, zero, suc, ◌+◌, ◌-◌, ◌*◌, ◌^◌, ◌≤◌, ◌<◌}
use native.Mathlib.Nat.{pow-succ', one-le-pow}
use native.Mathlib.Omega.{arith}
use lib.ListN.{length, get_or, take, drop, replicate, length-take, length-drop, length-append, length-replicate, drop_of_length-le}
use lib.Seq.{get_or-drop}
use borrow.Rule.Slice.PartMut.{put_mid}
use Rattle.std.specs.Int.{w32, w64, from_le_bytes}
use Rattle.std.proofs.lemmas.List.{drop-replicate}
use Rattle.octets.specs.Octets.{little_endian}

-- n bytes make a number below 256^n
little_lt : (n : ℕ) (s : List ℕ) → ((i : ℕ) → get_or s i 0 < 256) → little_endian (take n s) < 256 ^ n
unfolding little_endian
little_lt zero s h = omega arith
little_lt (suc n) [] h = omega (arith, one-le-pow (suc n) 256 (omega arith))
little_lt (suc n) (b ∷ bs) h = rw (pow-succ' 256 n) (omega (arith, h 0, little_lt n bs (λ i. h (suc i))))

-- ---- the library's number

-- a byte, and the number of those behind it
from : (s : List ℕ) (i : ℕ) → little_endian (drop i s) ≡ get_or s i 0 + 256 * little_endian (drop (suc i) s)
unfolding little_endian
from [] zero = refl
from [] (suc i) = refl
from (b ∷ bs) zero = refl
from (b ∷ bs) (suc i) = from bs i

none_left : (s : List ℕ) (n : ℕ) → length s ≤ n → little_endian (drop n s) ≡ 0
unfolding little_endian
none_left s n h = rw (drop_of_length-le s {i = n} h)

pub four_bytes : (s : List ℕ) → length s ≤ 4 → from_le_bytes w32 s ≡ little_endian s
four_bytes s h = omega (arith, from s 0, from s 1, from s 2, from s 3, none_left s 4 h)

pub eight_bytes : (s : List ℕ) → length s ≤ 8 → from_le_bytes w64 s ≡ little_endian s
eight_bytes s h =
    omega (arith, from s 0, from s 1, from s 2, from s 3, from s 4, from s 5, from s 6, from s 7, none_left s 8 h)

-- ---- zeros behind bytes

zeros : (n : ℕ) → little_endian (replicate n 0) ≡ 0
unfolding little_endian
zeros zero = refl
zeros (suc n) = omega (arith, zeros n)

zeros_behind : (s : List ℕ) (n : ℕ) → little_endian (s ++ replicate n 0) ≡ little_endian s
unfolding little_endian
zeros_behind [] n = zeros n
zeros_behind (b ∷ bs) n = ap (λ (x : ℕ). b + 256 * x) (zeros_behind bs n)

-- the n bytes at a place, read from the front of eight zeros
module _ (s : List ℕ) (at n value : ℕ) where
  pub number_of : (part : List ℕ) → part ≡ take n (drop at s) → at + n ≤ length s → n ≤ 8 → ((i : ℕ) → get_or s i 0 < 256)
      → value ≡ from_le_bytes w64 (put_mid 0 n (replicate 8 0) part)
      → (value ≡ little_endian (take n (drop at s))) × (value < 256 ^ n)
  number_of part e room few bytes read =
      let front : put_mid 0 n (replicate 8 0) part ≡ take n (drop at s) ++ replicate (8 - n) 0 = rw (e, drop-replicate {X = ℕ} n 8 0) in
      let long : length (take n (drop at s)) ≡ n = simp (length-take, length-drop) (omega arith) in
      let all : length (take n (drop at s) ++ replicate (8 - n) 0) ≤ 8 = simp (length-append, length-replicate) (omega arith) in
      let is : value ≡ little_endian (take n (drop at s)) =
      read ∙ ap (from_le_bytes w64) front ∙ eight_bytes _ all ∙ zeros_behind _ (8 - n) in
      (is, rw is (little_lt n (drop at s) (λ i. rw (get_or-drop at s i 0) (bytes (at + i)))))
