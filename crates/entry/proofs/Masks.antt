-- Laws of the masks: a mask of one bit as a test, and how large the bits of a byte that count can be.
use Prim.Native.Nat.{ℕ, ◌<◌, ◌^◌, ◌/◌, ◌%◌, ◌*◌}
use mathlib.Core.Bool.{Bool, true, false, not, ◌&&◌}
use mathlib.Core.Path.{◌≡◌, refl, ap}
use native.Mathlib.Omega.{arith}
use lib.Bits.{bit_and, and_high}
use lib.Dec.{ltb, eqb}
use borrow.Author.Tests.{eq-eqb, ne_eqb, eqb-true, eqb-false, ltb-true, ltb-false}
use Rattle.streaming.proofs.Choose.{in_both}
use Rattle.entry.specs.Entry.{bits_of}

module _ (byte : ℕ) where
  sign : bit_and byte 0x40 ≡ byte / 0x40 % 2 * 0x40
  sign = and_high byte 1 6

  sign_is : (back : Bool) → eqb (byte / 0x40 % 2) 1 ≡ back → not (eqb (bit_and byte 0x40) 0) ≡ back
  sign_is true e = ap not (ne_eqb (bit_and byte 0x40) 0 (λ z. omega (arith, sign, eqb-true (byte / 0x40 % 2) 1 e)))
  sign_is false e = ap not (eq-eqb (bit_and byte 0x40) 0 (omega (arith, sign, eqb-false (byte / 0x40 % 2) 1 e)))

  pub sign_bit : not (eqb (bit_and byte 0x40) 0) ≡ eqb (byte / 0x40 % 2) 1
  sign_bit = sign_is (eqb (byte / 0x40 % 2) 1) refl

  high : bit_and byte 0x80 ≡ byte / 0x80 % 2 * 0x80
  high = and_high byte 1 7

  high_is : byte < 0x100 → (last : Bool) → ltb byte 0x80 ≡ last → eqb (bit_and byte 0x80) 0 ≡ last
  high_is h true e = eq-eqb (bit_and byte 0x80) 0 (omega (arith, high, ltb-true byte 0x80 e))
  high_is h false e =
      let set : byte / 0x80 ≡ 1 = omega (arith, ltb-false byte 0x80 e) in
      ne_eqb (bit_and byte 0x80) 0 (λ z. omega (arith, rw set at high))

  pub high_bit : byte < 0x100 → eqb (bit_and byte 0x80) 0 ≡ ltb byte 0x80
  high_bit h = high_is h (ltb byte 0x80) refl

  pub bits_small : (field : ℕ) → bits_of byte field < 2 ^ 7
  unfolding bits_of
  bits_small field = in_both (λ n. n < 2 ^ 7) (ltb byte 0x80 && eqb field 1) (λ _. omega arith) (λ _. omega arith)
