-- The object map (§23.1): chunks of a size, entries and a checksum. Sizes and checksums are big-endian, and a size counts itself.
use Rattle.std.specs.Prelude.{ℕ, zero, suc, ◌+◌, ◌-◌, Bool, ◌&&◌, List, [], ◌∷◌, leb, eqb, Ok, None}
use Rattle.streaming.specs.Choose.{when◌then◌else◌}
use Rattle.streaming.specs.declared.FlatHeader.{FlatHeader}
use Rattle.streaming.specs.declared.Fault.TheVariants as fault
use Rattle.account.specs.Statement.{part}
use Rattle.account.specs.Account.{Account, over, framing, finished, broken}
use Rattle.account.specs.Asking.{Turn, go, bad, span, passing, one_by_one}
use Rattle.octets.specs.Octets.{big_endian}
use Rattle.rules.specs.Bytes.{checksum}
use Rattle.rules.specs.Header.{map_end}
use Rattle.rules.specs.Entry.{Entry, leads, refused, entries_of}
use Rattle.rules.specs.Object.{object_turn}

-- ---- what stands in a chunk at a place

module _ (src : List ℕ) (chunk : ℕ) where
  unfoldable pub chunk_size : ℕ
  chunk_size = big_endian (part src chunk 2)

  -- the checksum is over size bytes and entries
  unfoldable pub chunk_computed : (size : ℕ) → ℕ
  chunk_computed size = checksum (part src chunk size)

  unfoldable pub chunk_stored : (size : ℕ) → ℕ
  chunk_stored size = big_endian (part src (chunk + size) 2)

  unfoldable pub chunk_entries : (size : ℕ) → List Entry
  chunk_entries size = entries_of (part src (chunk + 2) (size - 2))

-- 2032 bytes of entries at most, and all of the chunk before the map's end
unfoldable pub chunk_fits : FlatHeader → (chunk size : ℕ) → Bool
chunk_fits h chunk size = leb 2 size && leb size 2034 && leb (chunk + size + 2) (map_end h)

-- ---- what is asked for, and what is said: size, entries, checksum; then the entries again, and behind each its object

module _ (h : FlatHeader) (src : List ℕ) where
  -- from a place on, one byte at a time
  unfoldable pub ask_entries : List Entry → (at : ℕ) → Account → Account
  ask_entries [] at next = next
  ask_entries (leads bytes handle location ∷ more) at next = one_by_one src at bytes (object_turn h src handle location (ask_entries more (at + bytes) next))
  ask_entries (refused bytes ∷ more) at next = one_by_one src at bytes (bad (fault.MapEntry (at + bytes - 1)))

  -- size 2 ends the walk, and has to end the map
  unfoldable pub chunk_turn : (chunk size : ℕ) → Account → Turn
  chunk_turn chunk size next =
      when eqb size 2 then (when eqb (chunk + 4) (map_end h) then go finished (over (Ok None)) else bad (fault.MapChunk chunk))
      else go framing (ask_entries (chunk_entries src chunk size) (chunk + 2) next)

  unfoldable pub chunk_crc_turn : (chunk size computed stored : ℕ) → Account → Turn
  chunk_crc_turn chunk size computed stored next =
      when eqb stored computed then chunk_turn chunk size next else bad (fault.MapCrc chunk computed stored)

  unfoldable pub chunk_size_turn : (chunk size : ℕ) → Account → Turn
  chunk_size_turn chunk size next =
      when chunk_fits h chunk size then
      go framing (passing src (chunk + 2) (size - 2) framing
      (span src (chunk + size) 2 framing (chunk_crc_turn chunk size (chunk_computed src chunk size) (chunk_stored src chunk size) next)))
      else bad (fault.MapChunk chunk)

  -- The chunks from a place on. The first number only bounds the recursion: a chunk behind as many as the map has bytes would lie past the map's end,
  -- and is refused as any such chunk is (proofs/Enough.antt).
  unfoldable pub ask_chunks : ℕ → (chunk : ℕ) → Account
  ask_chunks zero chunk = over (broken (fault.MapChunk chunk))
  ask_chunks (suc k) chunk =
      when leb (chunk + 4) (map_end h) then
      span src chunk 2 framing (chunk_size_turn chunk (chunk_size src chunk) (ask_chunks k (chunk + chunk_size src chunk + 2)))
      else over (broken (fault.MapChunk chunk))
