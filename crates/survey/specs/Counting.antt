-- What the walk of the map comes to, and what is left of it at an entry of a chunk.
use Rattle.std.specs.Prelude.{ℕ, ◌+◌, ◌-◌, ◌≤◌, ◌<◌, List, length, Result, Ok, Err}
use Rattle.streaming.specs.Answers.{Asked}
use Rattle.streaming.specs.declared.FlatHeader.{FlatHeader}
use Rattle.account.specs.Statement.{part, ended_by}
use Rattle.rules.specs.Header.{map_end}
use Rattle.rules.specs.Entry.{entries_from}
use Rattle.rules.specs.PlainList.{Listing, stop, entries_then, chunks_from}
use Rattle.survey.specs.Survey.{objects_of}
use Rattle.survey.specs.declared.walk.Cursor.{Cursor}
use Rattle.survey.specs.declared.walk.Counted.{Counted}

unfoldable pub counted : Listing → Counted
counted l = record { count = length (objects_of l.records); ending = ended_by l.ending }

-- as many objects more
abbrev pub more : ℕ → Counted → Counted
more n c = record { count = n + c.count; ending = c.ending }

module _ (h : FlatHeader) (src : List ℕ) where
  -- from a chunk on
  unfoldable pub chunks_on : (chunk : ℕ) → Listing
  chunks_on chunk = chunks_from h src (map_end h - chunk) chunk

  -- from an entry on, in a chunk whose entries end there
  unfoldable pub entries_on : (end : ℕ) → Cursor → Listing → Listing
  entries_on end c rest = entries_then h src (entries_from (end - c.at) c.last.handle c.last.location (part src c.at (end - c.at))) c.at rest

  -- an object more, and the walk goes on; or it ends
  abbrev pub visit_goes : (end : ℕ) → Result Cursor Asked → Listing → Counted
  visit_goes end (Ok next) rest = more 1 (counted (entries_on end next rest))
  visit_goes end (Err q) rest = counted (stop q)

-- the next entry stands behind this one, in the chunk
abbrev pub GoesAhead : Cursor → (end : ℕ) → Result Cursor Asked → Type 0
GoesAhead c end (Ok next) = (c.at < next.at) × (next.at ≤ end)
GoesAhead c end (Err q) = Unit {0}
