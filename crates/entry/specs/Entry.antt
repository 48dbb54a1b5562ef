-- Stage Entry: an entry of the map is asked for byte by byte, and what a byte of it does.
use Rattle.std.specs.Prelude.{ℕ, ◌+◌, ◌*◌, ◌-◌, ◌/◌, ◌%◌, ◌^◌, Bool, ◌&&◌, not, ltb, leb, eqb, Some, None}
use Rattle.std.specs.Prelude as code
use Rattle.std.proofs.Math.Option.{Option, none, some}
use Rattle.std.specs.Int.Bits.{bit_or}
use Rattle.streaming.specs.Choose.{when◌then◌else◌}
use Rattle.streaming.specs.State.{with_map, at_entry, stepped, fell}
use Rattle.streaming.specs.declared.Request.{Request}
use Rattle.streaming.specs.declared.Step.TheVariants as step
use Rattle.streaming.specs.declared.Fault.TheVariants as fault
use Rattle.streaming.specs.declared.MapCursor.{MapCursor}
use Rattle.streaming.specs.declared.FlatWalker.{FlatWalker}
use Rattle.streaming.specs.declared.Fed.{Fed}
use Rattle.object.specs.Object.{enter_object}

unfoldable pub request_entry : FlatWalker → Request
request_entry s = record { offset = s.map.at; len = 1 }

-- the bits of a byte that count: 6 in the last byte of a location, else 7
unfoldable pub bits_of : (byte field : ℕ) → ℕ
bits_of byte field = when ltb byte 0x80 && eqb field 1 then byte % 0x40 else byte % 0x80

-- the byte is the chunk's last
abbrev pub at_last : MapCursor → Bool
at_last m = eqb (m.at + 1) (m.chunk + m.len)

-- a location moved back or ahead; none below 0 and above 2^63 - 1
unfoldable pub moved_by : (back : Bool) (location value : ℕ) → Option ℕ
moved_by back location value =
    when back then (when leb value location then some (location - value) else none)
    else when ltb (location + value) (2 ^ 63) then some (location + value)
    else none

-- the same as the code answers it
abbrev pub moved_to : Option ℕ → code.Option ℕ
moved_to none = None
moved_to (some location) = Some location

module _ (s : FlatWalker) where
  -- the entry is refused at its next byte's place
  abbrev pub refused_entry : Fed
  refused_entry = fell (fault.MapEntry s.map.at) s

  -- the location is whole: its object is entered at once
  unfoldable pub settle_location : Option ℕ → Fed
  settle_location none = refused_entry
  settle_location (some location) =
      enter_object (with_map s (at_entry s.map.chunk s.map.len (s.map.at + 1) s.map.handle location 0 0 0)) location

  -- the handle delta is whole
  unfoldable pub settle_handle : (value : ℕ) → Fed
  settle_handle value =
      when ltb (s.map.handle + value) (2 ^ 64) && not (at_last s.map) then
      stepped step.Framing (with_map s (at_entry s.map.chunk s.map.len (s.map.at + 1) (s.map.handle + value) s.map.loc 0 0 1))
      else refused_entry

  -- more bytes of the delta follow
  unfoldable pub more_groups : (value : ℕ) → Fed
  more_groups value =
      when at_last s.map then refused_entry
      else stepped step.Framing
      (with_map s (at_entry s.map.chunk s.map.len (s.map.at + 1) s.map.handle s.map.loc value (s.map.shift + 7) s.map.field))

  -- the delta with this byte's bits
  unfoldable pub settle_group : (byte value : ℕ) → Fed
  settle_group byte value =
      when ltb byte 0x80 then
      (when eqb s.map.field 0 then settle_handle value else settle_location (moved_by (eqb (byte / 0x40 % 2) 1) s.map.loc value))
      else more_groups value

  -- a tenth byte is refused before anything else
  unfoldable pub feed_entry : (byte : ℕ) → Fed
  feed_entry byte =
      when leb s.map.shift 56 then settle_group byte (bit_or s.map.mc (bits_of byte s.map.field * 2 ^ s.map.shift))
      else refused_entry
