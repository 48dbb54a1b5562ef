-- An object (§20.1): its size in one or two words, its data, and a checksum of 2 bytes. Numbers are little-endian.
use Rattle.std.specs.Prelude.{ℕ, ◌+◌, ◌*◌, ◌%◌, Bool, ◌&&◌, not, List, take, drop, ltb, leb, eqb, Ok}
use Rattle.std.proofs.Math.Option.{Option, none, some}
use Rattle.streaming.specs.Choose.{when◌then◌else◌}
use Rattle.streaming.specs.declared.Part.TheVariants.{Object}
use Rattle.streaming.specs.declared.FlatHeader.{FlatHeader}
use Rattle.streaming.specs.declared.ObjectRecord.{ObjectRecord}
use Rattle.streaming.specs.declared.Step.TheVariants as step
use Rattle.streaming.specs.declared.Fault.{Fault}
use Rattle.streaming.specs.declared.Fault.TheVariants as fault
use Rattle.account.specs.Statement.{part}
use Rattle.account.specs.Account.{Account, framing, payload}
use Rattle.account.specs.Asking.{Turn, go, bad, span, passing}
use Rattle.octets.specs.Octets.{little_endian}
use Rattle.rules.specs.Bytes.{checksum}
use Rattle.rules.specs.Header.{header_end, map_start, map_end, is_r2000}
use Rattle.rules.specs.Prologue.{Prologue, prologue_of}

-- ---- its size

-- words of 15 bits, the low one first; the high bit means that a second one follows, and is refused on the second
pub data Size : Type 0 where
  sized : (field_bytes size : ℕ) → Size
  unending : Size

abbrev pub is_last : (word : ℕ) → Bool
is_last word = ltb word 0x8000

unfoldable pub size_of_words : (first second : ℕ) → Size
size_of_words first second =
    when is_last first then sized 2 first
    else when is_last second then sized 4 (first % 0x8000 + 0x8000 * second)
    else unending

-- the second word is looked at only where the first is not the last
abbrev pub size_in : (four_bytes : List ℕ) → Size
size_in bytes = size_of_words (little_endian (take 2 bytes)) (little_endian (drop 2 bytes))

-- ---- its place

-- it may start behind the header, two bytes inside the source, and not in the map
unfoldable pub may_start : FlatHeader → (location : ℕ) → Bool
may_start h location = leb (header_end h) location && leb (location + 2) h.length && not (leb (map_start h) location && ltb location (map_end h))

-- and may end inside the source, with no byte of the map in its span
unfoldable pub may_end : FlatHeader → (location end : ℕ) → Bool
may_end h location end = leb end h.length && not (ltb location (map_end h) && ltb (map_start h) end)

-- ---- what stands in an object at a location

module _ (src : List ℕ) (location : ℕ) where
  abbrev pub first_word : ℕ
  first_word = little_endian (part src location 2)

  unfoldable pub size_at : Size
  size_at = size_in (part src location 4)

  -- the checksum is over size bytes and data
  unfoldable pub object_computed : (field_bytes size : ℕ) → ℕ
  object_computed field_bytes size = checksum (part src location (field_bytes + size))

  unfoldable pub object_stored : (field_bytes size : ℕ) → ℕ
  object_stored field_bytes size = little_endian (part src (location + field_bytes + size) 2)

-- ---- what a whole object turns out to be

pub data Verdict : Type 0 where
  holds : ObjectRecord → Verdict
  fails : Fault → Verdict

-- what an object commits
unfoldable pub object_record : (handle location size : ℕ) → Prologue → ObjectRecord
object_record handle location size p = record { handle = handle; offset = location; size = size; type_code = p.type }

-- its prologue has to name the handle that the map gives
unfoldable pub named : (handle location size : ℕ) → Option Prologue → Verdict
named handle location size none = fails (fault.ObjectHeader handle)
named handle location size (some p) =
    when eqb p.handle handle then holds (object_record handle location size p) else fails (fault.ObjectHandle handle p.handle)

-- the checksum first, then the prologue of the data's first 16 bytes
unfoldable pub verdict : FlatHeader → (src : List ℕ) (handle location field_bytes size : ℕ) → Verdict
verdict h src handle location field_bytes size =
    let computed = object_computed src location field_bytes size in
    let stored = object_stored src location field_bytes size in
    when eqb stored computed then named handle location size (prologue_of (is_r2000 h) (take 16 (part src (location + field_bytes) size)))
    else fails (fault.ObjectCrc handle computed stored)

-- ---- what is asked for, and what is said, in the order of the fields

-- the last byte commits
unfoldable pub verdict_turn : (next : Account) → Verdict → Turn
verdict_turn next (holds r) = go (Ok (step.Object r)) next
verdict_turn next (fails f) = bad f

module _ (h : FlatHeader) (src : List ℕ) (handle location : ℕ) (next : Account) where
  unfoldable pub ask_object_data : (field_bytes size : ℕ) → Account
  ask_object_data field_bytes size =
      passing src (location + field_bytes) size (payload Object)
      (span src (location + field_bytes + size) 2 framing (verdict_turn next (verdict h src handle location field_bytes size)))

  unfoldable pub object_size_turn : Size → Turn
  object_size_turn unending = bad (fault.ObjectSize handle)
  object_size_turn (sized field_bytes size) =
      when ltb 0 size then
      (when may_end h location (location + field_bytes + size + 2) then go framing (ask_object_data field_bytes size)
      else bad (fault.ObjectRange handle location))
      else bad (fault.ObjectSize handle)

  -- each word is one demand
  unfoldable pub ask_object : Account
  ask_object =
      span src location 2 framing
      (when is_last (first_word src location) then object_size_turn (size_at src location)
      else go framing (span src (location + 2) 2 framing (object_size_turn (size_at src location))))

  -- at the last byte of its entry in the map an object is entered at once
  unfoldable pub object_turn : Turn
  object_turn = when may_start h location then go framing ask_object else bad (fault.ObjectRange handle location)
