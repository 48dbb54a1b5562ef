-- Stage Object: what is asked for in an object, and what a piece of it does.
use Rattle.std.specs.Prelude.{ℕ, ◌+◌, ◌*◌, ◌-◌, ◌%◌, ◌^◌, min, List, length, take, ltb, eqb, Result, Ok, Err}
use Rattle.std.proofs.Math.Option.{Option}
use Rattle.std.proofs.lemmas.List.Edits.{sets}
use Rattle.std.specs.Int.Bits.{bit_or}
use Rattle.crc.specs.Crc.{crc_of}
use Rattle.octets.specs.Octets.{little_endian}
use Rattle.streaming.specs.Choose.{when◌then◌else◌}
use Rattle.streaming.specs.State.{in_unit, with_object, stepped, goes_on, fell}
use Rattle.streaming.specs.declared.Request.{Request}
use Rattle.streaming.specs.declared.Part.TheVariants as part
use Rattle.streaming.specs.declared.Step.TheVariants as step
use Rattle.streaming.specs.declared.Fault.{Fault}
use Rattle.streaming.specs.declared.Fault.TheVariants as fault
use Rattle.streaming.specs.declared.ObjectRecord.{ObjectRecord}
use Rattle.streaming.specs.declared.Stage.TheVariants as stage
use Rattle.streaming.specs.declared.FlatWalker.{FlatWalker}
use Rattle.streaming.specs.declared.Fed.{Fed}
use Rattle.rules.specs.Bytes.{seed}
use Rattle.rules.specs.Header.{is_r2000}
use Rattle.rules.specs.Prologue.{Prologue, prologue_of}
use Rattle.rules.specs.Object.{is_last, may_start, may_end, Verdict, holds, fails, named}
use Rattle.chunk.specs.Chunk.{enter_chunk}

-- ---- entering one, and what follows it

-- an object is entered at once: a location where none may start is answered by the call that brings it
unfoldable pub enter_object : FlatWalker → (location : ℕ) → Fed
enter_object s location =
    when may_start s.header location then
    stepped step.Framing (with_object (in_unit s stage.Object 0 0 seed s.field) s.head location 0 0)
    else fell (fault.ObjectRange s.map.handle location) s

-- behind an object the next entry, or the next chunk, 2 bytes of checksum later
unfoldable pub leave_object : FlatWalker → FlatWalker
leave_object s =
    when eqb s.map.at (s.map.chunk + s.map.len) then enter_chunk s (s.map.at + 2)
    else in_unit s stage.Entry s.done s.size s.crc s.field

-- ---- what is asked for

-- where the demand ends: a word of the size, the data, the checksum
unfoldable pub object_end : (done size ms_len : ℕ) → ℕ
object_end done size ms_len = when eqb ms_len 0 then done - done % 2 + 2 else when ltb done (ms_len + size) then ms_len + size else ms_len + size + 2

unfoldable pub request_object : FlatWalker → Request
request_object s = record { offset = s.object + s.done; len = object_end s.done s.size s.ms_len - s.done }

-- ---- what a piece does

-- the prologue of the data, whose first 16 bytes are kept
abbrev pub kept_prologue : FlatWalker → Option Prologue
kept_prologue s = prologue_of (is_r2000 s.header) (take (min s.size 16) s.head)

-- the code's word for the rules' verdict
abbrev pub verdict_of : Result ObjectRecord Fault → Verdict
verdict_of (Ok r) = holds r
verdict_of (Err f) = fails f

module _ (s : FlatWalker) where
  -- the size is known, and with it the object's end
  unfoldable pub settle_object_size : (done size crc : ℕ) (field : List ℕ) → Fed
  settle_object_size done size crc field =
      when ltb 0 size then
      (when may_end s.header s.object (s.object + done + size + 2) then
      stepped step.Framing (with_object (in_unit s s.stage done size crc field) s.head s.object done (s.words + 1))
      else fell (fault.ObjectRange s.map.handle s.object) s)
      else fell (fault.ObjectSize s.map.handle) s

  -- a word is whole: 15 bits of the size, and whether a second word follows
  unfoldable pub settle_word : (done crc : ℕ) (field : List ℕ) (word : ℕ) → Fed
  settle_word done crc field word =
      let size = bit_or s.size (word % 0x8000 * 2 ^ (15 * s.words)) in
      when is_last word then settle_object_size done size crc field
      else when eqb s.words 0 then
      stepped step.Framing (with_object (in_unit s s.stage done size crc field) s.head s.object 0 1)
      else fell (fault.ObjectSize s.map.handle) s

  unfoldable pub settle_verdict : (field : List ℕ) → Verdict → Fed
  settle_verdict field (holds r) =
      stepped (step.Object r) (leave_object (in_unit s s.stage (s.ms_len + s.size + 2) s.size s.crc field))
  settle_verdict field (fails f) = fell f s

  -- the checksum is whole: then the prologue decides
  unfoldable pub settle_object_crc : (field : List ℕ) (stored : ℕ) → Fed
  settle_object_crc field stored =
      when eqb stored s.crc then
      settle_verdict field (named s.map.handle s.object s.size (kept_prologue s))
      else fell (fault.ObjectCrc s.map.handle s.crc stored) s

  module _ (piece : List ℕ) where
    unfoldable pub feed_word : Fed
    feed_word =
        let crc = crc_of s.crc piece in
        let field = sets s.field (s.done % 2) piece in
        let done = s.done + length piece in
        when eqb (done % 2) 0 then settle_word done crc field (little_endian (take 2 field))
        else goes_on s done s.size crc field

    -- the first 16 bytes are kept for the prologue
    unfoldable pub feed_object_data : Fed
    feed_object_data =
        let at = s.done - s.ms_len in
        stepped (step.Payload part.Object)
        (with_object (in_unit s s.stage (s.done + length piece) s.size (crc_of s.crc piece) s.field)
        (sets s.head at (take (16 - at) piece)) s.object s.ms_len s.words)

    unfoldable pub feed_object_crc : Fed
    feed_object_crc =
        let field = sets s.field (s.done - (s.ms_len + s.size)) piece in
        when eqb (s.done + length piece) (s.ms_len + s.size + 2) then settle_object_crc field (little_endian (take 2 field))
        else goes_on s (s.done + length piece) s.size s.crc field

    unfoldable pub feed_object : Fed
    feed_object =
        when eqb s.ms_len 0 then feed_word
        else when ltb s.done (s.ms_len + s.size) then feed_object_data
        else feed_object_crc
