-- Which states of stage Chunk a walk can reach, and what the later stages hold of a chunk.
use Rattle.std.specs.Prelude.{ℕ, ◌+◌, ◌≤◌, ◌<◌, Bool, ◌&&◌, ◌≡◌, replicate, ltb, leb, eqb}
use Rattle.octets.specs.Octets.{same}
use Rattle.streaming.specs.Choose.{when◌then◌else◌}
use Rattle.streaming.specs.declared.FlatHeader.{FlatHeader}
use Rattle.streaming.specs.declared.MapCursor.{MapCursor}
use Rattle.streaming.specs.declared.FlatWalker.{FlatWalker}
use Rattle.rules.specs.Header.{map_start, map_end}

-- ---- tests

-- nothing of an object is held
unfoldable pub no_object : FlatWalker → Bool
no_object s = (eqb s.object 0 && eqb s.ms_len 0) && (eqb s.words 0 && same s.head (replicate 16 0))

-- nothing of the map is held but a chunk's place
unfoldable pub no_entry : MapCursor → Bool
no_entry m =
    (eqb m.len 0 && eqb m.at 0 && eqb m.handle 0 && eqb m.loc 0)
    && (eqb m.mc 0 && eqb m.shift 0 && eqb m.field 0)

-- the chunk is as far as a walk can be: its size, once it is known, fits a map that ends there
unfoldable pub chunk_done : (end chunk done size : ℕ) → Bool
chunk_done end chunk done size =
    when ltb done 2 then eqb size 0
    else (leb 2 size && leb size 2034) && (leb (chunk + size + 2) end && ltb done (size + 2))

unfoldable pub fit_chunk : FlatWalker → Bool
fit_chunk s =
    (no_object s && no_entry s.map)
    && (leb (map_start s.header) s.map.chunk && leb (s.map.chunk + 4) (map_end s.header))
    && chunk_done (map_end s.header) s.map.chunk s.done s.size

-- a chunk whose entries are walked lies in the map
unfoldable pub in_chunk : FlatHeader → MapCursor → Bool
in_chunk h m = (leb 3 m.len && leb m.len 2034) && (leb (map_start h) m.chunk && leb (m.chunk + m.len + 2) (map_end h))

-- ---- what they show

pub record FitChunk (s : FlatWalker) : Type 0 where
  pub low : map_start s.header ≤ s.map.chunk
  pub room : s.map.chunk + 4 ≤ map_end s.header
  pub early : s.done < 2 → s.size ≡ 0
  pub least : 2 ≤ s.done → 2 ≤ s.size
  pub most : s.size ≤ 2034
  pub inside : s.map.chunk + s.size + 2 ≤ map_end s.header
  pub within : s.done < s.size + 2

pub record InChunk (h : FlatHeader) (m : MapCursor) : Type 0 where
  pub least : 3 ≤ m.len
  pub most : m.len ≤ 2034
  pub low : map_start h ≤ m.chunk
  pub inside : m.chunk + m.len + 2 ≤ map_end h
