-- What the data of an object begins with (§20.1): its type and its handle, read bit by bit, the most significant bit of each byte first.
use Rattle.std.specs.Prelude.{ℕ, zero, suc, ◌+◌, ◌*◌, ◌-◌, ◌/◌, ◌%◌, ◌^◌, Bool, List, length, get_or, ltb, leb, eqb}
use Rattle.std.proofs.Math.Option.{Option, none, some}
use Rattle.streaming.specs.Choose.{when◌then◌else◌}

pub record Prologue : Type 0 where
  pub type : ℕ
  pub handle : ℕ

module _ (bytes : List ℕ) where
  -- the bit at a place
  unfoldable pub bit_at : ℕ → ℕ
  bit_at at = get_or bytes (at / 8) 0 / 2 ^ (7 - at % 8) % 2

  -- the number that n bits from a place on make, the highest bit first
  unfoldable pub bits_at : (at n : ℕ) → ℕ
  bits_at at zero = 0
  bits_at at (suc n) = 2 * bits_at at n + bit_at (at + n)

  -- reads n bits at a place and goes on with their number and the place behind them; none where the bits run out
  unfoldable pub reading : (at n : ℕ) → ((number behind : ℕ) → Option Prologue) → Option Prologue
  reading at n go_on = when leb (at + n) (8 * length bytes) then go_on (bits_at at n) (at + n) else none

  -- 4 bits are skipped, 4 bits count (above 8: none), and that many bytes are the handle, the high byte first
  unfoldable pub reading_handle : (type at : ℕ) → Option Prologue
  reading_handle type at =
      reading at 4 λ skipped at.
      reading at 4 λ count at.
      when ltb 8 count then none
      else reading at (8 * count) λ handle at. some (record { type = type; handle = handle })

  -- in R2000 the 32 bits between the type and the handle are skipped
  unfoldable pub behind_type : (r2000 : Bool) (type at : ℕ) → Option Prologue
  behind_type r2000 type at = when r2000 then (reading at 32 λ skipped at. reading_handle type at) else reading_handle type at

  -- the type by its code: 0 a 16-bit type, low byte first; 1 an 8-bit type; 2 type 0; 3 type 256
  unfoldable pub reading_type : (code at : ℕ) → ((type behind : ℕ) → Option Prologue) → Option Prologue
  reading_type code at go_on =
      when eqb code 0 then (reading at 8 λ low at. reading at 8 λ high at. go_on (low + 256 * high) at)
      else when eqb code 1 then reading at 8 go_on
      else when eqb code 2 then go_on 0 at
      else go_on 256 at

-- The prologue that some bytes begin with: the first two bits are the type's code.
unfoldable pub prologue_of : (r2000 : Bool) (bytes : List ℕ) → Option Prologue
prologue_of r2000 bytes = reading bytes 0 2 λ code at. reading_type bytes code at (behind_type bytes r2000)
