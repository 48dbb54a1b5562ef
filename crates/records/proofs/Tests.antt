-- The choices of the definitions by their tests, and the masks of the code, as rules for the search.
use mathlib.Core.Path.{◌≡◌, refl}
use mathlib.Core.Bool.{true, false}
use Prim.Native.Nat.{ℕ, ◌%◌}
use lib.Bits.{bit_and, and_mask}
use Rattle.streaming.specs.Choose.{when◌then◌else◌}

pub when_true : (x y : ℕ) → (when true then x else y) ≡ x
unfolding when◌then◌else◌
when_true x y = refl

pub when_false : (x y : ℕ) → (when false then x else y) ≡ y
unfolding when◌then◌else◌
when_false x y = refl

pub ruleset choices = (when_true, when_false)

pub low_bit : (n : ℕ) → bit_and n 1 ≡ n % 2
low_bit n = and_mask n 1

pub low_byte : (n : ℕ) → bit_and n 255 ≡ n % 256
low_byte n = and_mask n 8

pub ruleset masks = (low_bit, low_byte)
