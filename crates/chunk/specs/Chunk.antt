-- Stage Chunk: what is asked for in a chunk of the map, and what a piece of it does.
use Rattle.std.specs.Prelude.{ℕ, ◌+◌, ◌-◌, List, length, take, replicate, ltb, leb, eqb}
use Rattle.std.proofs.lemmas.List.Edits.{sets}
use Rattle.crc.specs.Crc.{crc_of}
use Rattle.octets.specs.Octets.{big_endian}
use Rattle.streaming.specs.Choose.{when◌then◌else◌}
use Rattle.streaming.specs.State.{in_unit, with_object, with_map, failing, at_chunk, at_entry, stepped, goes_on, fell}
use Rattle.streaming.specs.declared.Request.{Request}
use Rattle.streaming.specs.declared.Step.TheVariants as step
use Rattle.streaming.specs.declared.Fault.TheVariants as fault
use Rattle.streaming.specs.declared.Stage.TheVariants as stage
use Rattle.streaming.specs.declared.FlatWalker.{FlatWalker}
use Rattle.streaming.specs.declared.Fed.{Fed}
use Rattle.rules.specs.Bytes.{checksum}
use Rattle.rules.specs.Header.{map_end}
use Rattle.rules.specs.Map.{chunk_fits}

-- ---- entering one

-- nothing of an object is held, and nothing of the map but the chunk's place
abbrev pub chunk_at : FlatWalker → (chunk : ℕ) → FlatWalker
chunk_at s chunk = with_map (with_object (in_unit s stage.Chunk 0 0 s.crc s.field) (replicate 16 0) 0 0 0) (at_chunk chunk)

-- a chunk that can't hold a size and a checksum is a fault, which is told by the next call
unfoldable pub enter_chunk : FlatWalker → (chunk : ℕ) → FlatWalker
enter_chunk s chunk = when leb (chunk + 4) (map_end s.header) then chunk_at s chunk else failing (chunk_at s chunk) (fault.MapChunk chunk)

-- ---- what is asked for

-- where the demand ends: the size, the entries, the checksum
unfoldable pub chunk_end : (done size : ℕ) → ℕ
chunk_end done size = when ltb done 2 then 2 else when ltb done size then size else size + 2

unfoldable pub request_chunk : FlatWalker → Request
request_chunk s = record { offset = s.map.chunk + s.done; len = chunk_end s.done s.size - s.done }

-- ---- what a piece does

module _ (s : FlatWalker) where
  -- the size is whole
  unfoldable pub settle_chunk_size : (field : List ℕ) (size : ℕ) → Fed
  settle_chunk_size field size =
      when chunk_fits s.header s.map.chunk size then goes_on s 2 size (checksum (take 2 field)) field
      else fell (fault.MapChunk s.map.chunk) s

  -- the checksum holds: the walk is finished, or goes on with the entries
  unfoldable pub settle_chunk : (field : List ℕ) → Fed
  settle_chunk field =
      when eqb s.size 2 then
      (when eqb (s.map.chunk + 4) (map_end s.header) then stepped step.Finished (in_unit s stage.Done 4 2 s.crc field)
      else fell (fault.MapChunk s.map.chunk) s)
      else stepped step.Framing
      (with_map (in_unit s stage.Entry (s.size + 2) s.size s.crc field) (at_entry s.map.chunk s.size (s.map.chunk + 2) 0 0 0 0 0))

  -- the checksum is whole
  unfoldable pub settle_chunk_crc : (field : List ℕ) (stored : ℕ) → Fed
  settle_chunk_crc field stored = when eqb stored s.crc then settle_chunk field else fell (fault.MapCrc s.map.chunk s.crc stored) s

  module _ (piece : List ℕ) where
    unfoldable pub feed_chunk_size : Fed
    feed_chunk_size =
        let field = sets s.field s.done piece in
        when eqb (s.done + length piece) 2 then settle_chunk_size field (big_endian (take 2 field))
        else goes_on s (s.done + length piece) s.size s.crc field

    unfoldable pub feed_chunk_entries : Fed
    feed_chunk_entries = goes_on s (s.done + length piece) s.size (crc_of s.crc piece) s.field

    unfoldable pub feed_chunk_crc : Fed
    feed_chunk_crc =
        let field = sets s.field (s.done - s.size) piece in
        when eqb (s.done + length piece) (s.size + 2) then settle_chunk_crc field (big_endian (take 2 field))
        else goes_on s (s.done + length piece) s.size s.crc field

    unfoldable pub feed_chunk : Fed
    feed_chunk = when ltb s.done 2 then feed_chunk_size else when ltb s.done s.size then feed_chunk_entries else feed_chunk_crc
