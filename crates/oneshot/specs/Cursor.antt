-- The objects of a map once more, one by one: what an entry leads to, with no check made again.
use Rattle.std.specs.Prelude.{ℕ, zero, suc, ◌+◌, ◌-◌, Bool, List, length, take, leb, eqb, Option, Some, None}
use Rattle.streaming.specs.Choose.{when◌then◌else◌}
use Rattle.streaming.specs.declared.FlatHeader.{FlatHeader}
use Rattle.streaming.specs.declared.ObjectRecord.{ObjectRecord}
use Rattle.account.specs.Statement.{part}
use Rattle.rules.specs.Header.{map_start, is_r2000}
use Rattle.rules.specs.Entry.{Entry, leads, refused, entry_in}
use Rattle.rules.specs.Prologue.{prologue_of}
use Rattle.rules.specs.Object.{Size, sized, unending, size_at}
use Rattle.rules.specs.Map.{chunk_size}
use Rattle.records.specs.Answer.{head_of}
use Rattle.records.specs.declared.Opening.{Opening}
use Rattle.oneshot.specs.declared.steps.Cursor.{Cursor}
use Rattle.oneshot.specs.declared.steps.Visit.{Visit}

-- where there is no object
abbrev pub blank : ObjectRecord
blank = record { handle = 0; offset = 0; size = 0; type_code = 0 }

-- ---- the object that an entry leads to

-- the record, by what `prologue` says of the data
abbrev pub record_of_head : (handle location size : ℕ) → Option Opening → ObjectRecord
record_of_head handle location size None = blank
record_of_head handle location size (Some o) = record { handle = handle; offset = location; size = size; type_code = o.type_code }

abbrev pub sized_at : (r2000 : Bool) (src : List ℕ) (handle location : ℕ) → Size → ObjectRecord
sized_at r2000 src handle location unending = blank
sized_at r2000 src handle location (sized field_bytes size) =
    record_of_head handle location size (head_of (prologue_of r2000 (take 16 (part src (location + field_bytes) size))))

-- the object at a location, read as the rules read it, but with no test of its place, its checksum or its handle
unfoldable pub record_at : (r2000 : Bool) (src : List ℕ) (handle location : ℕ) → ObjectRecord
record_at r2000 src handle location = sized_at r2000 src handle location (size_at src location)

-- ---- one step

-- nothing is opened yet, and the map's first chunk comes next
abbrev pub first_cursor : FlatHeader → Cursor
first_cursor h = record { r2000 = is_r2000 h; chunk = map_start h; at = 0; end = 0; last = record { handle = 0; location = 0 } }

module _ (src : List ℕ) where
  -- the next chunk, if it lies in the source: handle and location restart at 0
  unfoldable pub opened_of : Cursor → Cursor
  opened_of c =
      let size = chunk_size src c.chunk in
      when leb (c.chunk + size + 2) (length src) then
      record { r2000 = c.r2000; chunk = c.chunk + size + 2; at = c.chunk + 2; end = c.chunk + size; last = record { handle = 0; location = 0 } }
      else c

  -- the chunk with the next entry: a new one where the entries of the last are used up
  unfoldable pub in_hand : Cursor → Cursor
  in_hand c = when eqb c.at c.end then opened_of c else c

  abbrev pub next_entry : Cursor → Entry
  next_entry c = entry_in c.last.handle c.last.location (part src c.at (c.end - c.at))

  -- an entry leads to its object and to the entry behind it; a refused one nowhere
  unfoldable pub visit_of : Cursor → Entry → Visit
  visit_of c (leads bytes handle location) = record {
    object = record_at c.r2000 src handle location;
    next = record { r2000 = c.r2000; chunk = c.chunk; at = c.at + bytes; end = c.end; last = record { handle = handle; location = location } };
  }
  visit_of c (refused bytes) = record { object = blank; next = c }

  unfoldable pub step_of : Cursor → Visit
  step_of c = visit_of (in_hand c) (next_entry (in_hand c))

  -- ---- many steps

  -- the cursor behind i steps
  abbrev pub cursor_at : Cursor → ℕ → Cursor
  cursor_at c zero = c
  cursor_at c (suc i) = (step_of (cursor_at c i)).next

  -- the record of step i
  abbrev pub record_of : Cursor → ℕ → ObjectRecord
  record_of c i = (step_of (cursor_at c i)).object
