-- How the rules' list goes on behind what the code has found at one place of the source.
use Rattle.std.specs.Prelude.{ℕ, ◌+◌, ◌≤◌, List, ◌≡◌, Result, Ok, Err}
use Rattle.streaming.specs.Answers.{Asked}
use Rattle.streaming.specs.Record.{section, object}
use Rattle.streaming.specs.declared.FlatHeader.{FlatHeader}
use Rattle.streaming.specs.declared.SectionRecord.{SectionRecord}
use Rattle.streaming.specs.declared.ObjectRecord.{ObjectRecord}
use Rattle.streaming.specs.declared.Fault.{Fault}
use Rattle.account.specs.Account.{broken}
use Rattle.rules.specs.Header.{map_end}
use Rattle.rules.specs.Map.{chunk_size, chunk_entries}
use Rattle.rules.specs.PlainList.{Listing, stop, first, entries_then}

-- a section that holds stands before the rest; a fault ends the walk
abbrev pub section_goes : Result SectionRecord Fault → Listing → Listing
section_goes (Ok r) rest = first (section r) rest
section_goes (Err f) rest = stop (broken f)

-- an object that holds stands before the rest; a fault or a stall ends the walk
abbrev pub object_goes : Result ObjectRecord Asked → Listing → Listing
object_goes (Ok r) rest = first (object r) rest
object_goes (Err q) rest = stop q

module _ (h : FlatHeader) (src : List ℕ) (chunk : ℕ) where
  -- a chunk's entries and their objects stand before the rest; a fault or the final chunk ends the walk
  abbrev pub chunk_goes : Result ℕ Asked → Listing → Listing
  chunk_goes (Ok size) rest = entries_then h src (chunk_entries src chunk size) (chunk + 2) rest
  chunk_goes (Err q) rest = stop q

  -- the size of a chunk with entries is the one that it says, and the chunk lies in the map
  pub record Inside (size : ℕ) : Type 0 where
    pub said : size ≡ chunk_size src chunk
    pub some : 3 ≤ size
    pub fits : chunk + size + 2 ≤ map_end h

  abbrev pub EntriesFit : Result ℕ Asked → Type 0
  EntriesFit (Ok size) = Inside size
  EntriesFit (Err q) = Unit {0}
