-- Which states of stage Object a walk can reach.
use Rattle.std.specs.Prelude.{◌+◌, ◌*◌, ◌-◌, ◌^◌, ◌≤◌, ◌<◌, Bool, true, ◌&&◌, ◌≡◌, ltb, leb, eqb}
use Rattle.streaming.specs.Choose.{when◌then◌else◌}
use Rattle.streaming.specs.declared.FlatWalker.{FlatWalker}
use Rattle.rules.specs.Object.{may_start, may_end}
use Rattle.chunk.specs.Fit.{in_chunk, InChunk}

-- ---- tests

-- an entry of the chunk is whole, and led here
unfoldable pub behind_entry : FlatWalker → Bool
behind_entry s =
    (ltb (s.map.chunk + 2) s.map.at && leb s.map.at (s.map.chunk + s.map.len))
    && (eqb s.map.field 0 && eqb s.map.shift 0 && eqb s.map.mc 0)
    && (eqb s.object s.map.loc && leb s.object (2 ^ 63 - 1) && may_start s.header s.object)

-- how far the object is: in its size words, or behind them with a size that fits the source
unfoldable pub object_done : FlatWalker → Bool
object_done s =
    when eqb s.ms_len 0 then leb s.words 1 && (leb (2 * s.words) s.done && ltb s.done (2 * s.words + 2))
    else (leb 1 s.words && leb s.words 2 && eqb s.ms_len (2 * s.words) && ltb 0 s.size)
    && (may_end s.header s.object (s.object + s.ms_len + s.size + 2)
    && leb s.ms_len s.done && ltb s.done (s.ms_len + s.size + 2))

-- the Rust's own test
unfoldable pub object_consistent : FlatWalker → Bool
object_consistent s = in_chunk s.header s.map && behind_entry s && object_done s

-- the size is one that so many words can hold: 0, 32,767 or 2^30 - 1 at most
unfoldable pub size_in_words : FlatWalker → Bool
size_in_words s = ltb s.size (2 ^ (15 * s.words))

unfoldable pub fit_object : FlatWalker → Bool
fit_object s = object_consistent s && size_in_words s

-- ---- what they show

pub record FitObject (s : FlatWalker) : Type 0 where
  pub chunk : InChunk s.header s.map
  pub low : s.map.chunk + 2 < s.map.at
  pub high : s.map.at ≤ s.map.chunk + s.map.len
  pub field : s.map.field ≡ 0
  pub shift : s.map.shift ≡ 0
  pub mc : s.map.mc ≡ 0
  pub located : s.object ≡ s.map.loc
  pub near : s.object < 2 ^ 63
  pub starts : may_start s.header s.object ≡ true
  pub words : s.words ≤ 2
  pub sized : s.size < 2 ^ (15 * s.words)
  -- in the size words
  pub few_words : s.ms_len ≡ 0 → s.words ≤ 1
  pub word_low : s.ms_len ≡ 0 → 2 * s.words ≤ s.done
  pub word_high : s.ms_len ≡ 0 → s.done < 2 * s.words + 2
  -- behind them
  pub word_bytes : (s.ms_len ≡ 0 → ⊥) → s.ms_len ≡ 2 * s.words
  pub some : (s.ms_len ≡ 0 → ⊥) → 0 < s.size
  pub ends : (s.ms_len ≡ 0 → ⊥) → may_end s.header s.object (s.object + s.ms_len + s.size + 2) ≡ true
  pub behind : (s.ms_len ≡ 0 → ⊥) → s.ms_len ≤ s.done
  pub inside : (s.ms_len ≡ 0 → ⊥) → s.done < s.ms_len + s.size + 2
