-- The step is linear over xor: so the checksum of some bytes is one xor of entries, each of the row of the bytes behind it.
use mathlib.Core.Path.{◌≡◌, refl, sym, ap, ap₂, ◌∙◌}
use mathlib.Core.List.{List, [], ◌∷◌}
use Prim.Native.Nat.{ℕ, zero, suc, ◌*◌, ◌/◌, ◌%◌, ◌^◌, ◌<◌}
use native.Mathlib.Nat.{mod-lt, div-add-mod', le_of_suc-le-suc, not-suc-le-zero}
use native.Mathlib.Omega.{arith}
use lib.Bits.{bit_xor, differ, xor_comm, xor_zero_r, xor_shr, xor_mod, xor_shifted, shifted_half, shifted_even}
use lib.ListN.{length, get_or}
use Rattle.std.specs.Int.Bits.{xor_assoc}
use Rattle.crc.specs.Crc.{polynomial_if, step, steps, crc_byte, crc_of}
use Rattle.crc.specs.Rows.{row_of}

-- ---- xor, half by half

two : {x : ℕ} {A : Type 0} → suc (suc x) < 2 → A
two h = absurd (not-suc-le-zero (le_of_suc-le-suc (le_of_suc-le-suc h)))

xor_of_bits : (x y : ℕ) → x < 2 → y < 2 → bit_xor x y ≡ differ x y
xor_of_bits zero y hx hy = refl
xor_of_bits (suc zero) zero hx hy = refl
xor_of_bits (suc zero) (suc zero) hx hy = refl
xor_of_bits (suc zero) (suc (suc y)) hx hy = two hy
xor_of_bits (suc (suc x)) y hx hy = two hx

bit : (a : ℕ) → a % 2 < 2
bit a = omega arith

xor_half : (a b : ℕ) → bit_xor a b / 2 ≡ bit_xor (a / 2) (b / 2)
xor_half a b = xor_shr a b 1

xor_bit : (a b : ℕ) → bit_xor a b % 2 ≡ differ (a % 2) (b % 2)
xor_bit a b = xor_mod a b 1 ∙ xor_of_bits (a % 2) (b % 2) (bit a) (bit b)

xor4 : (a b c d : ℕ) → bit_xor (bit_xor a b) (bit_xor c d) ≡ bit_xor (bit_xor a c) (bit_xor b d)
xor4 a b c d =
    xor_assoc a b (bit_xor c d)
    ∙ ap (bit_xor a) (sym (xor_assoc b c d) ∙ ap (λ (x : ℕ). bit_xor x d) (xor_comm b c) ∙ xor_assoc c b d)
    ∙ sym (xor_assoc a c (bit_xor b d))

-- ---- a step is linear, and shifts what has a zero for its lowest bit

poly_differ : (p q : ℕ) → p < 2 → q < 2 → polynomial_if (differ p q) ≡ bit_xor (polynomial_if p) (polynomial_if q)
unfolding polynomial_if
poly_differ zero q hp hq = refl
poly_differ (suc zero) zero hp hq = refl
poly_differ (suc zero) (suc zero) hp hq = refl
poly_differ (suc zero) (suc (suc q)) hp hq = two hq
poly_differ (suc (suc p)) q hp hq = two hp

step_xor : (a b : ℕ) → step (bit_xor a b) ≡ bit_xor (step a) (step b)
unfolding step
step_xor a b =
    ap₂ (λ (x y : ℕ). bit_xor (polynomial_if x) y) (xor_bit a b) (xor_half a b)
    ∙ ap (λ (x : ℕ). bit_xor x (bit_xor (a / 2) (b / 2))) (poly_differ (a % 2) (b % 2) (bit a) (bit b))
    ∙ xor4 (polynomial_if (a % 2)) (polynomial_if (b % 2)) (a / 2) (b / 2)

step_even : (y k : ℕ) → step (y * 2 ^ suc k) ≡ y * 2 ^ k
unfolding step polynomial_if
step_even y k = ap₂ (λ (p h : ℕ). bit_xor (polynomial_if p) h) (shifted_even y k) (shifted_half y k)

steps_xor : (n a b : ℕ) → steps n (bit_xor a b) ≡ bit_xor (steps n a) (steps n b)
unfolding steps
steps_xor zero a b = refl
steps_xor (suc n) a b = ap (steps n) (step_xor a b) ∙ steps_xor n (step a) (step b)

steps-shift : (n y : ℕ) → steps n (y * 2 ^ n) ≡ y
unfolding steps
steps-shift zero y = omega arith
steps-shift (suc n) y = ap (steps n) (step_even y n) ∙ steps-shift n y

-- ---- a byte is eight steps of the state and eight of the byte

halves : (x : ℕ) → bit_xor (x / 256 * 256) (x % 256) ≡ x
halves x = xor_shifted (x / 256) 8 (x % 256) (mod-lt x (omega arith)) ∙ div-add-mod' x 256

eight_split : (x : ℕ) → bit_xor (x / 256) (steps 8 (x % 256)) ≡ steps 8 x
eight_split x =
    ap (λ (h : ℕ). bit_xor h (steps 8 (x % 256))) (sym (steps-shift 8 (x / 256)))
    ∙ sym (steps_xor 8 (x / 256 * 256) (x % 256))
    ∙ ap (steps 8) (halves x)

byte_steps : (c b : ℕ) → b < 256 → crc_byte c b ≡ bit_xor (steps 8 c) (steps 8 b)
unfolding crc_byte
byte_steps c b h =
    ap (λ (x : ℕ). bit_xor x (steps 8 (bit_xor c b % 256)))
    (sym (xor_shr c b 8 ∙ ap (bit_xor (c / 256)) (omega arith) ∙ xor_zero_r (c / 256)))
    ∙ eight_split (bit_xor c b)
    ∙ steps_xor 8 c b

-- ---- rows

row_zero : (i : ℕ) → row_of 0 i ≡ steps 8 i
unfolding row_of
row_zero i = refl

row_suc : (k i : ℕ) → row_of (suc k) i ≡ steps 8 (row_of k i)
unfolding row_of steps step polynomial_if
row_suc k i = byte_steps (row_of k i) 0 (omega arith) ∙ xor_zero_r (steps 8 (row_of k i))

row_xor : (k a b : ℕ) → row_of k (bit_xor a b) ≡ bit_xor (row_of k a) (row_of k b)
row_xor zero a b = row_zero (bit_xor a b) ∙ steps_xor 8 a b ∙ sym (ap₂ bit_xor (row_zero a) (row_zero b))
row_xor (suc k) a b =
    row_suc k (bit_xor a b) ∙ ap (steps 8) (row_xor k a b) ∙ steps_xor 8 (row_of k a) (row_of k b)
    ∙ sym (ap₂ bit_xor (row_suc k a) (row_suc k b))

-- eight steps first, or one row further
row_steps : (k i : ℕ) → row_of k (steps 8 i) ≡ row_of (suc k) i
row_steps zero i = row_zero (steps 8 i) ∙ ap (steps 8) (sym (row_zero i)) ∙ sym (row_suc 0 i)
row_steps (suc k) i = row_suc k (steps 8 i) ∙ ap (steps 8) (row_steps k i) ∙ sym (row_suc (suc k) i)

-- a state's entry, from those of its two bytes
row_state : (k c : ℕ) → row_of (suc k) c ≡ bit_xor (row_of k (c / 256)) (row_of (suc k) (c % 256))
row_state k c =
    ap (row_of (suc k)) (sym (halves c)) ∙ row_xor (suc k) (c / 256 * 256) (c % 256)
    ∙ ap (λ (x : ℕ). bit_xor x (row_of (suc k) (c % 256))) (sym (row_steps k (c / 256 * 256)) ∙ ap (row_of k) (steps-shift 8 (c / 256)))

-- ---- some bytes: each byte's entry of the row that counts the bytes behind it

abbrev pub Bytes : List ℕ → Type 0
Bytes s = (i : ℕ) → get_or s i 0 < 256

unfoldable pub rows_of : List ℕ → ℕ
rows_of [] = 0
rows_of (b ∷ bs) = bit_xor (row_of (length bs) b) (rows_of bs)

crc_rows : (b : ℕ) (bs : List ℕ) (c : ℕ) → Bytes (b ∷ bs) → crc_of c (b ∷ bs) ≡ bit_xor (row_of (length bs) c) (rows_of (b ∷ bs))
unfolding crc_of rows_of
crc_rows b [] c h =
    byte_steps c b (h 0) ∙ sym (ap₂ bit_xor (row_zero c) (xor_zero_r (row_of 0 b) ∙ row_zero b))
crc_rows b (d ∷ bs) c h =
    let k : ℕ = length bs in
    crc_rows d bs (crc_byte c b) (λ i. h (suc i))
    ∙ ap (λ (x : ℕ). bit_xor x (rows_of (d ∷ bs)))
    (ap (row_of k) (byte_steps c b (h 0)) ∙ row_xor k (steps 8 c) (steps 8 b) ∙ ap₂ bit_xor (row_steps k c) (row_steps k b))
    ∙ xor_assoc (row_of (suc k) c) (row_of (suc k) b) (rows_of (d ∷ bs))

-- the state's two bytes may go into the first two bytes
into_two : (k c a b rest : ℕ)
    → bit_xor (row_of (suc k) c) (bit_xor (row_of (suc k) a) (bit_xor (row_of k b) rest))
    ≡ bit_xor (row_of (suc k) (bit_xor a (c % 256))) (bit_xor (row_of k (bit_xor b (c / 256))) rest)
into_two k c a b rest =
    ap (λ (x : ℕ). bit_xor x (bit_xor (row_of (suc k) a) (bit_xor (row_of k b) rest))) (row_state k c ∙ xor_comm h l)
    ∙ xor4 l h (row_of (suc k) a) (bit_xor (row_of k b) rest)
    ∙ ap₂ bit_xor (xor_comm l (row_of (suc k) a) ∙ sym (row_xor (suc k) a (c % 256)))
    (sym (xor_assoc h (row_of k b) rest) ∙ ap (λ (x : ℕ). bit_xor x rest) (xor_comm h (row_of k b) ∙ sym (row_xor k b (c / 256))))
  where
    h : ℕ
    h = row_of k (c / 256)

    l : ℕ
    l = row_of (suc k) (c % 256)

-- two bytes and more, as the fast path has them
pub crc_group : (c a b : ℕ) (bs : List ℕ) → Bytes (a ∷ b ∷ bs)
    → crc_of c (a ∷ b ∷ bs) ≡ bit_xor (row_of (suc (length bs)) (bit_xor a (c % 256))) (bit_xor (row_of (length bs) (bit_xor b (c / 256))) (rows_of bs))
unfolding rows_of
crc_group c a b bs h = crc_rows a (b ∷ bs) c h ∙ into_two (length bs) c a b (rows_of bs)
