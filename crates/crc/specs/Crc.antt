-- The 16-bit checksum of the specification's section on CRCs (§2.14.1), from its polynomial.
use Rattle.std.specs.Prelude.{List, [], ◌∷◌, ℕ, zero, suc, ◌/◌, ◌%◌}
use Rattle.std.specs.Int.Bits.{bit_xor}

-- 0xA001 if the bit that was dropped is one, and else nothing
unfoldable pub polynomial_if : ℕ → ℕ
polynomial_if zero = 0
polynomial_if (suc b) = 0xA001

-- one step: shift right by one, and xor 0xA001 if the bit dropped was one
unfoldable pub step : ℕ → ℕ
step x = bit_xor (polynomial_if (x % 2)) (x / 2)

-- x after n steps
unfoldable pub steps : ℕ → ℕ → ℕ
steps zero x = x
steps (suc n) x = steps n (step x)

-- one byte: (old shifted right 8) xor T[(old xor byte) mod 256], where T[i] is i after eight steps
unfoldable pub crc_byte : ℕ → ℕ → ℕ
crc_byte old b = bit_xor (old / 256) (steps 8 (bit_xor old b % 256))

-- the checksum of some bytes, from a seed
unfoldable pub crc_of : ℕ → List ℕ → ℕ
crc_of seed [] = seed
crc_of seed (b ∷ bs) = crc_of (crc_byte seed b) bs
