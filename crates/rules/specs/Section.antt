-- A section: the header variables (§9) or the classes (§10.1). A start sentinel of 16 bytes, a size of 4, data, a checksum of 2 and an end
-- sentinel of 16. Numbers are little-endian, and each of the five fields is one demand.
use Rattle.std.specs.Prelude.{ℕ, ◌+◌, List, [], ◌∷◌, get_or, leb, eqb, Ok}
use Rattle.streaming.specs.Choose.{when◌then◌else◌}
use Rattle.streaming.specs.Numbers.{part_number}
use Rattle.streaming.specs.declared.Part.{Part}
use Rattle.streaming.specs.declared.SectionRecord.{SectionRecord}
use Rattle.streaming.specs.declared.Step.TheVariants as step
use Rattle.streaming.specs.declared.Fault.TheVariants as fault
use Rattle.account.specs.Statement.{part}
use Rattle.account.specs.Account.{Account, over, framing, payload, broken}
use Rattle.account.specs.Asking.{Turn, go, bad, span, passing, spell}
use Rattle.octets.specs.Octets.{little_endian}
use Rattle.rules.specs.Bytes.{checksum}

-- the four sentinels: of the header variables, then of the classes, the one at the start and the one at the end
unfoldable pub sentinels : List (List (List ℕ))
sentinels =
    ((0xCF ∷ 0x7B ∷ 0x1F ∷ 0x23 ∷ 0xFD ∷ 0xDE ∷ 0x38 ∷ 0xA9 ∷ 0x5F ∷ 0x7C ∷ 0x68 ∷ 0xB8 ∷ 0x4E ∷ 0x6D ∷ 0x33 ∷ 0x5F ∷ []) ∷
    (0x30 ∷ 0x84 ∷ 0xE0 ∷ 0xDC ∷ 0x02 ∷ 0x21 ∷ 0xC7 ∷ 0x56 ∷ 0xA0 ∷ 0x83 ∷ 0x97 ∷ 0x47 ∷ 0xB1 ∷ 0x92 ∷ 0xCC ∷ 0xA0 ∷ []) ∷ []) ∷
    ((0x8D ∷ 0xA1 ∷ 0xC4 ∷ 0xB8 ∷ 0xC4 ∷ 0xA9 ∷ 0xF8 ∷ 0xC5 ∷ 0xC0 ∷ 0xDC ∷ 0xF4 ∷ 0x5F ∷ 0xE7 ∷ 0xCF ∷ 0xB6 ∷ 0x8A ∷ []) ∷
    (0x72 ∷ 0x5E ∷ 0x3B ∷ 0x47 ∷ 0x3B ∷ 0x56 ∷ 0x07 ∷ 0x3A ∷ 0x3F ∷ 0x23 ∷ 0x0B ∷ 0xA0 ∷ 0x18 ∷ 0x30 ∷ 0x49 ∷ 0x75 ∷ []) ∷ []) ∷ []

abbrev pub start_sentinel : Part → List ℕ
start_sentinel p = get_or (get_or sentinels (part_number p) []) 0 []

abbrev pub end_sentinel : Part → List ℕ
end_sentinel p = get_or (get_or sentinels (part_number p) []) 1 []

-- the sentinels, the size and the checksum: a section is its data and 38 bytes
abbrev pub frame : ℕ
frame = 38

-- ---- what stands in a section at a place

module _ (src : List ℕ) (start : ℕ) where
  unfoldable pub section_size : ℕ
  section_size = little_endian (part src (start + 16) 4)

  -- the checksum is over size and data
  unfoldable pub section_computed : (size : ℕ) → ℕ
  section_computed size = checksum (part src (start + 16) (4 + size))

  unfoldable pub section_stored : (size : ℕ) → ℕ
  section_stored size = little_endian (part src (start + 20 + size) 2)

-- what a section commits
unfoldable pub section_record : (p : Part) (start size : ℕ) → SectionRecord
section_record p start size = record { part = p; data_offset = start + 20; size = size }

-- ---- what is asked for, and what is said, in the order of the fields

module _ (src : List ℕ) (p : Part) (start : ℕ) (next : Account) where
  -- the last byte commits
  unfoldable pub ask_section_end : (size : ℕ) → Account
  ask_section_end size =
      spell src (start + 22 + size) (end_sentinel p) (fault.SectionSentinel (part_number p)) (go (Ok (step.Section (section_record p start size))) next)

  unfoldable pub section_crc_turn : (size computed stored : ℕ) → Turn
  section_crc_turn size computed stored =
      when eqb stored computed then go framing (ask_section_end size) else bad (fault.SectionCrc (part_number p) computed stored)

  unfoldable pub ask_section_data : (size : ℕ) → Account
  ask_section_data size =
      passing src (start + 20) size (payload p)
      (span src (start + 20 + size) 2 framing (section_crc_turn size (section_computed src start size) (section_stored src start size)))

-- the total is the locator's size
module _ (src : List ℕ) (p : Part) (start total : ℕ) (next : Account) where
  unfoldable pub section_size_turn : (size : ℕ) → Turn
  section_size_turn size = when eqb (frame + size) total then go framing (ask_section_data src p start next size) else bad (fault.SectionSize (part_number p))

  unfoldable pub ask_section : Account
  ask_section =
      when leb frame total then
      spell src start (start_sentinel p) (fault.SectionSentinel (part_number p))
      (go framing (span src (start + 16) 4 framing (section_size_turn (section_size src start))))
      else over (broken (fault.SectionSize (part_number p)))
