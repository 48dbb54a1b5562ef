-- Laws of the checksum: of a message in two parts, of its range, of a byte at a state, and of a message read from a place on.
use mathlib.Core.Path.{◌≡◌, refl, sym, ap, ◌∙◌}
use mathlib.Core.List.{List, [], ◌∷◌, ◌++◌}
use Prim.Native.Nat.{ℕ, zero, suc, ◌+◌, ◌*◌, ◌/◌, ◌%◌, ◌^◌, ◌<◌}
use native.Mathlib.Nat.{le_of_suc-le-suc}
use native.Mathlib.Numerals.{add-one}
use native.Mathlib.Omega.{arith}
use lib.Bits.{bit_xor, xor_lt, xor_mod}
use lib.ListN.{length, get_or, take, drop, take-append-drop}
use lib.Seq.{drop-cons, drop-drop, drop-length}
use Rattle.std.specs.Int.{w16, to_le_bytes}
use Rattle.std.specs.Simd.{first_chunks}
use Rattle.crc.specs.Crc.{polynomial_if, step, steps, crc_byte, crc_of}
use Rattle.crc.specs.Rows.{row_of, FirstRow}

-- a message in two parts
pub crc_append : (c : ℕ) (a b : List ℕ) → crc_of c (a ++ b) ≡ crc_of (crc_of c a) b
unfolding crc_of
crc_append c [] b = refl
crc_append c (x ∷ xs) b = crc_append (crc_byte c x) xs b

-- ---- the result is below 2^16

polynomial_lt : (b : ℕ) → polynomial_if b < 2 ^ 16
unfolding polynomial_if
polynomial_lt zero = omega arith
polynomial_lt (suc b) = omega arith

steps_lt : (n x : ℕ) → x < 2 ^ 16 → steps n x < 2 ^ 16
unfolding steps step
steps_lt zero x h = h
steps_lt (suc n) x h = steps_lt n (bit_xor (polynomial_if (x % 2)) (x / 2)) (xor_lt 16 (polynomial_if (x % 2)) (x / 2) (polynomial_lt (x % 2)) (omega arith))

byte_lt : (c b : ℕ) → c < 2 ^ 16 → crc_byte c b < 2 ^ 16
unfolding crc_byte
byte_lt c b h = xor_lt 16 (c / 256) (steps 8 (bit_xor c b % 256)) (omega arith) (steps_lt 8 (bit_xor c b % 256) (omega arith))

pub crc_lt : (c : ℕ) (s : List ℕ) → c < 2 ^ 16 → crc_of c s < 2 ^ 16
unfolding crc_of
crc_lt c [] h = h
crc_lt c (b ∷ bs) h = crc_lt (crc_byte c b) bs (byte_lt c b h)

-- ---- a byte at a state, from row 0: the low byte of the state with the byte, and the high byte

pub one_byte : (row state : List ℕ) (c b : ℕ) {high x : ℕ} → FirstRow row → c < 2 ^ 16 → b < 256 → state ≡ to_le_bytes w16 c
    → high ≡ get_or state 1 0 → x ≡ bit_xor (get_or state 0 0) b → bit_xor high (get_or row x 0) ≡ crc_byte c b
unfolding crc_byte row_of
one_byte row state c b {high = high} {x = x} r hc hb es eh ex =
    let h : high ≡ c / 256 = omega (arith, rw es at eh) in
    let e : x ≡ bit_xor (c % 256) b = rw es at ex in
    let lt : x < 256 = rw e (xor_lt 8 (c % 256) b (omega arith) hb) in
    rw h (ap (bit_xor (c / 256)) (r.rule x lt ∙ ap (steps 8) (e ∙ ap (bit_xor (c % 256)) (omega arith) ∙ sym (xor_mod c b 8))))

-- ---- a message from a place on

module _ (s : List ℕ) (c i : ℕ) where
  pub crc_end : i ≡ length s → crc_of c (drop i s) ≡ c
  unfolding crc_of
  crc_end e = ap (λ (j : ℕ). crc_of c (drop j s)) e ∙ ap (crc_of c) (drop-length s)

  pub crc_next : i < length s → crc_of c (drop i s) ≡ crc_of (crc_byte c (get_or s i 0)) (drop (i + 1) s)
  unfolding crc_of
  crc_next h = rw (add-one, drop-cons s i 0)

  -- a part of n bytes, then the rest
  pub crc_part : (n : ℕ) → crc_of c (drop i s) ≡ crc_of (crc_of c (take n (drop i s))) (drop (i + n) s)
  crc_part n = ap (crc_of c) (sym (take-append-drop n (drop i s))) ∙ crc_append c (take n (drop i s)) (drop n (drop i s)) ∙ rw drop-drop

-- ---- words of eight bytes

word_at : (s : List ℕ) (n i : ℕ) → i < n → get_or (first_chunks 8 n s) i [] ≡ take 8 (drop (i * 8) s)
word_at s zero i h = absurd (omega arith)
word_at s (suc n) zero h = refl
word_at s (suc n) (suc i) h = word_at (drop 8 s) n i (le_of_suc-le-suc h) ∙ ap (take 8) (drop-drop (i * 8) 8 s ∙ ap (λ (k : ℕ). drop k s) (omega arith))

-- a word more
pub word_next : (s : List ℕ) (c n i : ℕ) → i < n → crc_of (crc_of c (get_or (first_chunks 8 n s) i [])) (drop ((i + 1) * 8) s) ≡ crc_of c (drop (i * 8) s)
word_next s c n i h =
    let k : (i + 1) * 8 ≡ i * 8 + 8 = omega arith in
    rw (k, word_at s n i h) (sym (crc_part s c (i * 8) 8))
