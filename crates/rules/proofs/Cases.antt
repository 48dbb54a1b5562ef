-- Document 01's whole case, damaged copies of it, and a source that ends before a second size word: what the rules say, by computation.
use Rattle.std.specs.Prelude.{Ok, None}
use Prim.Native.Nat.{ℕ}
use mathlib.Core.List.{List, [], ◌∷◌, ◌++◌}
use mathlib.Core.Path.{◌≡◌, refl}
use lib.ListN.{replicate, set}
use Rattle.streaming.specs.Record.{Record, section, object}
use Rattle.streaming.specs.declared.Locator.{Locator}
use Rattle.streaming.specs.declared.FlatHeader.{FlatHeader}
use Rattle.streaming.specs.declared.Part.{Part}
use Rattle.streaming.specs.declared.Part.TheVariants.{HeaderVars, Classes}
use Rattle.streaming.specs.declared.Fault.TheVariants as fault
use Rattle.streaming.specs.Answers.{Asked}
use Rattle.account.specs.Account.{Account, records_in, ending_of, bytes_taken, payload_taken, demand, broken}
use Rattle.rules.specs.Source.{Of}
use Rattle.rules.specs.Section.{start_sentinel, end_sentinel, section_record}
use Rattle.rules.specs.Object.{object_record}
use Rattle.rules.specs.Rules.{rules}
use Rattle.rules.proofs.EveryRule.{every_rule}

-- ---- what a walk says of a source: its records, its ending, its bytes, and how many of them are payload

pub record Outcome : Type 0 where
  pub records : List Record
  pub ending : Asked
  pub bytes : ℕ
  pub payload_bytes : ℕ

abbrev pub outcome_of : Account → Outcome
outcome_of a = record { records = records_in a; ending = ending_of a; bytes = bytes_taken a; payload_bytes = payload_taken a }

-- ---- headers, records and sources in short

abbrev pub locator : (number offset size : ℕ) → Locator
locator n o s = record { number = n; offset = o; size = s }

abbrev pub AC1014 : List ℕ
AC1014 = 0x41 ∷ 0x43 ∷ 0x31 ∷ 0x30 ∷ 0x31 ∷ 0x34 ∷ []

-- an R14 header with the sections and the map at these locators
abbrev pub header_with : (vars classes map : Locator) (length : ℕ) → FlatHeader
header_with vars classes map n = record { magic = AC1014; count = 3; locators = vars ∷ classes ∷ map ∷ []; length = n }

-- the line `S` of a section whose data starts 20 bytes behind its start, and the line `O` of an object
abbrev pub S : (p : Part) (start size : ℕ) → Record
S p start size = section (section_record p start size)

abbrev pub O : (handle offset size type : ℕ) → Record
O handle offset size type = object (object_record handle offset size (record { type = type; handle = handle }))

-- an empty section: its sentinels around a size of 0 and a checksum
abbrev pub empty_section : Part → List ℕ
empty_section p = start_sentinel p ++ (0x00 ∷ 0x00 ∷ 0x00 ∷ 0x00 ∷ 0x3D ∷ 0xC0 ∷ []) ++ end_sentinel p

-- 70 zeros and two empty sections: 146 bytes
abbrev pub front : List ℕ
front = replicate 70 0 ++ empty_section HeaderVars ++ empty_section Classes

-- their records, and others behind them
abbrev pub sections_and : List Record → List Record
sections_and rs = S HeaderVars 70 0 ∷ S Classes 108 0 ∷ rs

-- the chunk that ends a map
abbrev pub last_chunk : List ℕ
last_chunk = 0x00 ∷ 0x02 ∷ 0x01 ∷ 0xD0 ∷ []

-- an object of type 0 with the handle 5
abbrev pub first_object : List ℕ
first_object = 0x03 ∷ 0x00 ∷ 0x80 ∷ 0x41 ∷ 0x40 ∷ 0x75 ∷ 0x99 ∷ []

-- a chunk with one entry: handle 5 at 146
abbrev pub first_chunk : List ℕ
first_chunk = 0x00 ∷ 0x05 ∷ 0x05 ∷ 0x92 ∷ 0x01 ∷ 0xBC ∷ 0xBD ∷ []

-- ---- the whole case: an object at 146 and a map at 153

abbrev pub whole : List ℕ
whole = front ++ first_object ++ first_chunk ++ last_chunk

abbrev pub whole_header : FlatHeader
whole_header = header_with (locator 0 70 38) (locator 1 108 38) (locator 2 153 11) 164

-- ---- a map at 146 whose one entry leads to the last bytes of the source, at 157

abbrev pub stalling : (last_bytes : List ℕ) → List ℕ
stalling last_bytes = front ++ (0x00 ∷ 0x05 ∷ 0x05 ∷ 0x9D ∷ 0x01 ∷ 0x4C ∷ 0xB8 ∷ []) ++ last_chunk ++ last_bytes

abbrev pub stalling_header : (length : ℕ) → FlatHeader
stalling_header n = header_with (locator 0 70 38) (locator 1 108 38) (locator 2 146 11) n

-- ---- the whole case with another object, or with another first chunk

abbrev pub with_object : (bytes : List ℕ) → List ℕ
with_object bytes = front ++ bytes ++ first_chunk ++ last_chunk

abbrev pub with_chunk : (bytes : List ℕ) → List ℕ
with_chunk bytes = front ++ first_object ++ bytes ++ last_chunk

pub record WholeCase : Type 0 where
  pub is_whole : Of whole_header whole
  pub whole_case_lem : outcome_of (rules whole_header whole)
      ≡ record { records = S HeaderVars 70 0 ∷ S Classes 108 0 ∷ O 5 146 3 0 ∷ []; ending = Ok None; bytes = 97; payload_bytes = 3 }

-- each byte that is changed brings its fault, and what was committed before it stands
pub record Damaged : Type 0 where
  -- the first byte of the header variables, their size, and their checksum
  pub first_byte : outcome_of (rules whole_header (set whole 70 0))
      ≡ record { records = []; ending = broken (fault.SectionSentinel 0); bytes = 1; payload_bytes = 0 }
  pub section_size_lem : outcome_of (rules whole_header (set whole 86 1))
      ≡ record { records = []; ending = broken (fault.SectionSize 0); bytes = 20; payload_bytes = 0 }
  pub section_crc : outcome_of (rules whole_header (set whole 91 0))
      ≡ record { records = []; ending = broken (fault.SectionCrc 0 0xC03D 0x003D); bytes = 22; payload_bytes = 0 }
  -- the last byte of the classes: the header variables stand
  pub classes_end : outcome_of (rules whole_header (set whole 145 0))
      ≡ record { records = S HeaderVars 70 0 ∷ []; ending = broken (fault.SectionSentinel 1); bytes = 76; payload_bytes = 0 }
  -- the first chunk's size, and its checksum: both sections stand
  pub chunk_size_lem : outcome_of (rules whole_header (set whole 154 10))
      ≡ record { records = sections_and []; ending = broken (fault.MapChunk 153); bytes = 78; payload_bytes = 0 }
  pub map_crc : outcome_of (rules whole_header (set whole 158 0xBD))
      ≡ record { records = sections_and []; ending = broken (fault.MapCrc 153 0xBCBD 0xBDBD); bytes = 83; payload_bytes = 0 }
  -- an entry that leads into the map: the object is refused at the entry's last byte
  pub object-start : outcome_of (rules whole_header (with_chunk (0x00 ∷ 0x05 ∷ 0x05 ∷ 0x99 ∷ 0x01 ∷ 0x8C ∷ 0xBA ∷ [])))
      ≡ record { records = sections_and []; ending = broken (fault.ObjectRange 5 153); bytes = 86; payload_bytes = 0 }
  -- the object's size: none, and so much that its last byte is the map's first
  pub object_size : outcome_of (rules whole_header (set whole 146 0))
      ≡ record { records = sections_and []; ending = broken (fault.ObjectSize 5); bytes = 88; payload_bytes = 0 }
  pub object_end_lem : outcome_of (rules whole_header (set whole 146 4))
      ≡ record { records = sections_and []; ending = broken (fault.ObjectRange 5 146); bytes = 88; payload_bytes = 0 }
  -- its checksum, and a prologue whose handle has more than 8 bytes: its payload was taken
  pub object_crc : outcome_of (rules whole_header (set whole 152 0))
      ≡ record { records = sections_and []; ending = broken (fault.ObjectCrc 5 0x9975 0x0075); bytes = 93; payload_bytes = 3 }
  pub object_header : outcome_of (rules whole_header (with_object (0x03 ∷ 0x00 ∷ 0x82 ∷ 0x40 ∷ 0x00 ∷ 0xD4 ∷ 0x39 ∷ [])))
      ≡ record { records = sections_and []; ending = broken (fault.ObjectHeader 5); bytes = 93; payload_bytes = 3 }

-- the source ends where a second size word is asked for, or inside that word: 6 at the source's length
pub record Stalled : Type 0 where
  pub before_word : outcome_of (rules (stalling_header 159) (stalling (0x01 ∷ 0x80 ∷ [])))
      ≡ record { records = sections_and []; ending = demand 159 2; bytes = 88; payload_bytes = 0 }
  pub inside_word : outcome_of (rules (stalling_header 160) (stalling (0x01 ∷ 0x80 ∷ 0x00 ∷ [])))
      ≡ record { records = sections_and []; ending = demand 160 1; bytes = 89; payload_bytes = 0 }
  -- a size of 0 is told before the end is looked at: 14, though the span ends past the source
  pub no_size : outcome_of (rules (stalling_header 159) (stalling (0x00 ∷ 0x00 ∷ [])))
      ≡ record { records = sections_and []; ending = broken (fault.ObjectSize 5); bytes = 88; payload_bytes = 0 }

pub whole_case : WholeCase
unfolding every_rule
whole_case = record { is_whole = record { starts = refl; whole = refl }; whole_case_lem = refl }

pub damaged : Damaged
unfolding every_rule
damaged = record {
  first_byte = refl;
  section_size_lem = refl;
  section_crc = refl;
  classes_end = refl;
  chunk_size_lem = refl;
  map_crc = refl;
  object-start = refl;
  object_size = refl;
  object_end_lem = refl;
  object_crc = refl;
  object_header = refl;
}

pub stalled : Stalled
unfolding every_rule
stalled = record { before_word = refl; inside_word = refl; no_size = refl }
