-- Document 01's "Table to prove": its fourteen rows, over the definitions that the rules are made of.
use Prim.Native.Nat.{ℕ}
use mathlib.Core.Bool.{true, false}
use mathlib.Core.List.{List, [], ◌∷◌}
use mathlib.Core.Option.{Option, none, some}
use mathlib.Core.Path.{◌≡◌, refl}
use Rattle.crc.specs.Crc.{crc_of}
use Rattle.rules.specs.Entry.{ahead, back, handle_delta, location_delta}
use Rattle.rules.specs.Object.{sized, size_in}
use Rattle.rules.specs.Prologue.{Prologue, prologue_of}
use Rattle.rules.proofs.EveryRule.{every_rule}

abbrev R14 : List ℕ → Option Prologue
R14 = prologue_of false

abbrev R2000 : List ℕ → Option Prologue
R2000 = prologue_of true

abbrev read : (type handle : ℕ) → Option Prologue
read type handle = some (record { type = type; handle = handle })

pub record Table : Type 0 where
  pub crc_none : crc_of 0xC0C1 [] ≡ 0xC0C1
  pub crc_one : crc_of 0 (0x01 ∷ []) ≡ 0xC0C1
  pub crc_chunk : crc_of 0xC0C1 (0x00 ∷ 0x02 ∷ []) ≡ 0x01D0
  pub crc_zeros : crc_of 0xC0C1 (0x00 ∷ 0x00 ∷ 0x00 ∷ 0x00 ∷ []) ≡ 0xC03D
  pub location_zero : location_delta (0x40 ∷ []) ≡ ahead 0
  pub location_one : location_delta (0x7F ∷ []) ≡ back 63
  pub location_two : location_delta (0xC0 ∷ 0x41 ∷ []) ≡ back 192
  pub handle_two : handle_delta (0xFF ∷ 0x01 ∷ []) ≡ 255
  pub size_small : size_in (0x01 ∷ 0x80 ∷ 0x00 ∷ 0x00 ∷ []) ≡ sized 4 1
  pub size_large : size_in (0x00 ∷ 0x80 ∷ 0x01 ∷ 0x00 ∷ []) ≡ sized 4 32768
  pub r14_zero : R14 (0x80 ∷ 0x41 ∷ 0x40 ∷ []) ≡ read 0 5
  pub r14_word : R14 (0x00 ∷ 0x40 ∷ 0x80 ∷ 0x00 ∷ []) ≡ read 513 0
  pub r14_none : R14 (0x82 ∷ 0x40 ∷ []) ≡ none
  pub r2000_byte : R2000 (0x44 ∷ 0xC0 ∷ 0x00 ∷ 0x00 ∷ 0x00 ∷ 0x00 ∷ 0x4B ∷ 0xC0 ∷ []) ≡ read 19 47

pub table : Table
unfolding every_rule
table = record {
  crc_none = refl;
  crc_one = refl;
  crc_chunk = refl;
  crc_zeros = refl;
  location_zero = refl;
  location_one = refl;
  location_two = refl;
  handle_two = refl;
  size_small = refl;
  size_large = refl;
  r14_zero = refl;
  r14_word = refl;
  r14_none = refl;
  r2000_byte = refl;
}
