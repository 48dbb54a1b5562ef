-- Which states of stage Entry a walk can reach.
use Rattle.std.specs.Prelude.{ℕ, ◌+◌, ◌-◌, ◌%◌, ◌^◌, ◌≤◌, ◌<◌, Bool, ◌&&◌, ◌≡◌, ltb, leb, eqb}
use Rattle.streaming.specs.declared.FlatWalker.{FlatWalker}
use Rattle.chunk.specs.Fit.{in_chunk, InChunk}

-- ---- tests

-- the next byte lies in the chunk, the chunk in the map, and at most so many bits of a delta are held
unfoldable pub at_byte : (most_bits : ℕ) → FlatWalker → Bool
at_byte most_bits s =
    in_chunk s.header s.map
    && (leb (s.map.chunk + 2) s.map.at && ltb s.map.at (s.map.chunk + s.map.len))
    && (leb s.map.field 1 && leb s.map.shift most_bits && eqb (s.map.shift % 7) 0 && leb s.map.loc (2 ^ 63 - 1))

-- the Rust's own test: it refuses 63 bits, though a walk holds them after nine continued bytes
unfoldable pub entry_consistent : FlatWalker → Bool
entry_consistent s = at_byte 56 s

unfoldable pub fit_entry : FlatWalker → Bool
fit_entry s = at_byte 63 s

-- ---- what it shows

pub record FitEntry (s : FlatWalker) : Type 0 where
  pub chunk : InChunk s.header s.map
  pub low : s.map.chunk + 2 ≤ s.map.at
  pub high : s.map.at < s.map.chunk + s.map.len
  pub field : s.map.field ≤ 1
  pub shift : s.map.shift ≤ 63
  pub sevens : s.map.shift % 7 ≡ 0
  pub near : s.map.loc < 2 ^ 63
