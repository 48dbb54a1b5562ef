-- Stages Vars and Classes: what is asked for in a section, and what a piece of it does.
use Rattle.std.specs.Prelude.{ℕ, ◌+◌, ◌-◌, List, [], length, get_or, take, ltb, leb, eqb}
use Rattle.std.proofs.lemmas.List.Edits.{sets}
use Rattle.crc.specs.Crc.{crc_of}
use Rattle.octets.specs.Octets.{little_endian, same}
use Rattle.streaming.specs.Choose.{when◌then◌else◌}
use Rattle.streaming.specs.Numbers.{part_number}
use Rattle.streaming.specs.State.{in_unit, failing, stepped, goes_on, fell}
use Rattle.streaming.specs.declared.Locator.{Locator}
use Rattle.streaming.specs.declared.Request.{Request}
use Rattle.streaming.specs.declared.Part.{Part}
use Rattle.streaming.specs.declared.Part.TheVariants.{HeaderVars, Classes}
use Rattle.streaming.specs.declared.Step.TheVariants as step
use Rattle.streaming.specs.declared.Fault.TheVariants as fault
use Rattle.streaming.specs.declared.Stage.{Stage}
use Rattle.streaming.specs.declared.Stage.TheVariants as stage
use Rattle.streaming.specs.declared.FlatWalker.{FlatWalker}
use Rattle.streaming.specs.declared.Fed.{Fed}
use Rattle.account.specs.Statement.{part}
use Rattle.rules.specs.Bytes.{seed}
use Rattle.rules.specs.Header.{locator_of, map_start}
use Rattle.rules.specs.Section.{sentinels, frame, start_sentinel, end_sentinel, section_record}
use Rattle.chunk.specs.Chunk.{enter_chunk}
use Rattle.section.specs.declared.sentinels.Side.{Side}
use Rattle.section.specs.declared.sentinels.Side.TheVariants.{Start, End}

-- ---- the section in hand

-- the part of a stage; only the first two stages are sections
abbrev pub part_of : Stage → Part
part_of stage.Vars = HeaderVars
part_of stage.Classes = Classes
part_of stage.Chunk = Classes
part_of stage.Entry = Classes
part_of stage.Object = Classes
part_of stage.Done = Classes

abbrev pub section_of : FlatWalker → Locator
section_of s = locator_of s.header (part_number (part_of s.stage))

-- ---- its sentinels

abbrev pub side_number : Side → ℕ
side_number Start = 0
side_number End = 1

-- by the number of the part
abbrev pub sentinel_at : (part : ℕ) → Side → List ℕ
sentinel_at part side = get_or (get_or sentinels part []) (side_number side) []

-- ---- entering one, and what follows it

-- a section that can't hold its frame is a fault, which is told by the next call
unfoldable pub enter_section : FlatWalker → Stage → FlatWalker
enter_section s g =
    let entered = in_unit s g 0 0 s.crc s.field in
    when leb frame (locator_of s.header (part_number (part_of g))).size then entered else failing entered (fault.SectionSize (part_number (part_of g)))

-- behind the header variables the classes, behind the classes the map
abbrev pub enter_next : Stage → FlatWalker → FlatWalker
enter_next stage.Vars s = enter_section s stage.Classes
enter_next stage.Classes s = enter_chunk s (map_start s.header)
enter_next stage.Chunk s = s
enter_next stage.Entry s = s
enter_next stage.Object s = s
enter_next stage.Done s = s

-- ---- what is asked for

-- where the demand ends: the sentinel, the size, the data, the checksum, the sentinel
unfoldable pub section_end : (done size : ℕ) → ℕ
section_end done size =
    when ltb done 16 then 16
    else when ltb done 20 then 20
    else when ltb done (20 + size) then 20 + size
    else when ltb done (22 + size) then 22 + size
    else frame + size

unfoldable pub request_section : FlatWalker → Request
request_section s = record { offset = (section_of s).offset + s.done; len = section_end s.done s.size - s.done }

-- ---- what a piece does

module _ (s : FlatWalker) where
  -- the size is whole: with the frame it has to be the locator's
  unfoldable pub settle_section_size : (crc : ℕ) (field : List ℕ) (size : ℕ) → Fed
  settle_section_size crc field size =
      when eqb (frame + size) (section_of s).size then goes_on s 20 size crc field
      else fell (fault.SectionSize (part_number (part_of s.stage))) s

  -- the checksum is whole
  unfoldable pub settle_section_crc : (field : List ℕ) (stored : ℕ) → Fed
  settle_section_crc field stored =
      when eqb stored s.crc then goes_on s (22 + s.size) s.size s.crc field
      else fell (fault.SectionCrc (part_number (part_of s.stage)) s.crc stored) s

  -- the last byte commits
  unfoldable pub settle_section : Fed
  settle_section = stepped (step.Section (section_record (part_of s.stage) (section_of s).offset s.size)) (enter_next s.stage s)

  module _ (piece : List ℕ) where
    -- a sentinel is compared piece by piece
    unfoldable pub feed_section_start : Fed
    feed_section_start =
        when same piece (part (start_sentinel (part_of s.stage)) s.done (length piece)) then
        goes_on s (s.done + length piece) s.size seed s.field
        else fell (fault.SectionSentinel (part_number (part_of s.stage))) s

    unfoldable pub feed_section_size : Fed
    feed_section_size =
        let crc = crc_of s.crc piece in
        let field = sets s.field (s.done - 16) piece in
        when eqb (s.done + length piece) 20 then settle_section_size crc field (little_endian field)
        else goes_on s (s.done + length piece) s.size crc field

    unfoldable pub feed_section_data : Fed
    feed_section_data =
        stepped (step.Payload (part_of s.stage)) (in_unit s s.stage (s.done + length piece) s.size (crc_of s.crc piece) s.field)

    unfoldable pub feed_section_crc : Fed
    feed_section_crc =
        let field = sets s.field (s.done - (20 + s.size)) piece in
        when eqb (s.done + length piece) (22 + s.size) then settle_section_crc field (little_endian (take 2 field))
        else goes_on s (s.done + length piece) s.size s.crc field

    unfoldable pub feed_section_end : Fed
    feed_section_end =
        when same piece (part (end_sentinel (part_of s.stage)) (s.done - (22 + s.size)) (length piece)) then
        (when eqb (s.done + length piece) (frame + s.size) then settle_section
        else goes_on s (s.done + length piece) s.size s.crc s.field)
        else fell (fault.SectionSentinel (part_number (part_of s.stage))) s

    unfoldable pub feed_section : Fed
    feed_section =
        when ltb s.done 16 then feed_section_start
        else when ltb s.done 20 then feed_section_size
        else when ltb s.done (20 + s.size) then feed_section_data
        else when ltb s.done (22 + s.size) then feed_section_crc
        else feed_section_end
