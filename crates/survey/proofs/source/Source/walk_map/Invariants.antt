-- `walk_map`: the objects so far, and what the rest of the map gives, are what all of it gives.
use Prim.Native.Nat.{ℕ, ◌+◌, ◌-◌, ◌^◌, ◌≤◌, ◌<◌}
use mathlib.Core.List.{List}
use mathlib.Core.Path.{◌≡◌}
use Rattle.streaming.specs.declared.FlatHeader.{FlatHeader}
use Rattle.rules.specs.Header.{map_start, map_end}
use Rattle.rules.specs.PlainList.{Listing}
use Rattle.survey.specs.Counting.{counted, more, chunks_on, entries_on}
use Rattle.survey.proofs.source.Source.walk_map.Given as goal

-- so many objects, and what is left, come to what the map does
abbrev SoFar : FlatHeader → (src : List ℕ) (count : ℕ) → Listing → Type 0
SoFar h src count left = more count (counted left) ≡ counted (chunks_on h src (map_start h))

abbrev pub invariant-loop-c : goal.invariant-loop-c
invariant-loop-c l = (l.count ≤ l.c.at) × (l.c.at ≤ l.end) × SoFar l.self.header l.self.bytes.now l.count (entries_on l.self.header l.self.bytes.now l.end l.c (chunks_on l.self.header l.self.bytes.now (l.end + 2)))

abbrev pub decreases-loop-c : goal.decreases-loop-c
decreases-loop-c l = l.end - l.c.at

abbrev pub invariant-map : goal.invariant-map
invariant-map l = (l.count ≤ l.chunk) × (l.chunk < 2 ^ 34) × SoFar l.self.header l.self.bytes.now l.count (chunks_on l.self.header l.self.bytes.now l.chunk)

abbrev pub decreases-map : goal.decreases-map
decreases-map l = map_end l.self.header - l.chunk
