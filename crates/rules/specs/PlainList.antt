-- The records and the ending of a drawing as a plain list, with nothing asked for: both sections; then for each chunk of the map, for each of its
-- entries, the object. The map's order decides.
use Rattle.std.specs.Prelude.{ℕ, zero, suc, ◌+◌, ◌-◌, Bool, true, false, ◌&&◌, not, List, [], ◌∷◌, ltb, leb, eqb, Ok, None}
use Rattle.streaming.specs.Choose.{when◌then◌else◌}
use Rattle.streaming.specs.Numbers.{part_number}
use Rattle.streaming.specs.Record.{Record, section, object}
use Rattle.streaming.specs.declared.Part.{Part}
use Rattle.streaming.specs.declared.Part.TheVariants.{HeaderVars, Classes}
use Rattle.streaming.specs.declared.FlatHeader.{FlatHeader}
use Rattle.streaming.specs.declared.Fault.{Fault}
use Rattle.streaming.specs.declared.Fault.TheVariants as fault
use Rattle.streaming.specs.Answers.{Asked}
use Rattle.account.specs.Statement.{part}
use Rattle.account.specs.Account.{Account, records_in, ending_of, demand, broken}
use Rattle.octets.specs.Octets.{same}
use Rattle.rules.specs.Header.{locator_of, map_start, map_size, map_end}
use Rattle.rules.specs.Section.{start_sentinel, end_sentinel, frame, section_size, section_computed, section_stored, section_record}
use Rattle.rules.specs.Entry.{Entry, leads, refused}
use Rattle.rules.specs.Object.{Size, sized, unending, is_last, Verdict, holds, fails, may_start, may_end, first_word, size_at, verdict}
use Rattle.rules.specs.Map.{chunk_size, chunk_computed, chunk_stored, chunk_entries, chunk_fits}

pub record Listing : Type 0 where
  pub records : List Record
  pub ending : Asked

-- what an account tells, without its bytes
abbrev pub told : Account → Listing
told a = record { records = records_in a; ending = ending_of a }

abbrev pub stop : Asked → Listing
stop q = record { records = []; ending = q }

abbrev pub first : Record → Listing → Listing
first r rest = record { records = r ∷ rest.records; ending = rest.ending }

-- what has to hold before the rest is read, and the fault where it does not
unfoldable pub require : Bool → Fault → Listing → Listing
require true f rest = rest
require false f rest = stop (broken f)

-- a section of so many bytes in all (§9, §10.1)
unfoldable pub section_then : (src : List ℕ) (p : Part) (start total : ℕ) → Listing → Listing
section_then src p start total rest =
    let size = section_size src start in
    let computed = section_computed src start size in
    let stored = section_stored src start size in
    require (leb frame total) (fault.SectionSize (part_number p))
    (require (same (part src start 16) (start_sentinel p)) (fault.SectionSentinel (part_number p))
    (require (eqb (frame + size) total) (fault.SectionSize (part_number p))
    (require (eqb stored computed) (fault.SectionCrc (part_number p) computed stored)
    (require (same (part src (start + 22 + size) 16) (end_sentinel p)) (fault.SectionSentinel (part_number p))
    (first (section (section_record p start size)) rest)))))

unfoldable pub verdict_then : Verdict → Listing → Listing
verdict_then (holds r) rest = first (object r) rest
verdict_then (fails f) rest = stop (broken f)

module _ (h : FlatHeader) (src : List ℕ) where
  unfoldable pub sized_then : (handle location : ℕ) → Size → Listing → Listing
  sized_then handle location unending rest = stop (broken (fault.ObjectSize handle))
  sized_then handle location (sized field_bytes size) rest =
      require (ltb 0 size) (fault.ObjectSize handle)
      (require (may_end h location (location + field_bytes + size + 2)) (fault.ObjectRange handle location)
      (verdict_then (verdict h src handle location field_bytes size) rest))

  -- a second size word may lie beyond the source's end
  unfoldable pub lacks_second_word : (location : ℕ) → Bool
  lacks_second_word location = not (is_last (first_word src location)) && ltb h.length (location + 4)

  -- an object (§20.1)
  unfoldable pub object_then : (handle location : ℕ) → Listing → Listing
  object_then handle location rest =
      require (may_start h location) (fault.ObjectRange handle location)
      (when lacks_second_word location then stop (demand h.length (location + 4 - h.length))
      else sized_then handle location (size_at src location) rest)

  -- the objects of a chunk's entries, which begin at a place
  unfoldable pub entries_then : List Entry → (at : ℕ) → Listing → Listing
  entries_then [] at rest = rest
  entries_then (leads bytes handle location ∷ more) at rest = object_then handle location (entries_then more (at + bytes) rest)
  entries_then (refused bytes ∷ more) at rest = stop (broken (fault.MapEntry (at + bytes - 1)))

  -- a chunk with no entries is the last
  unfoldable pub checked_chunk_then : (chunk size : ℕ) → Listing → Listing
  checked_chunk_then chunk size rest =
      when eqb size 2 then require (eqb (chunk + 4) (map_end h)) (fault.MapChunk chunk) (stop (Ok None))
      else entries_then (chunk_entries src chunk size) (chunk + 2) rest

  -- a chunk of the map (§23.1)
  unfoldable pub chunk_then : (chunk size : ℕ) → Listing → Listing
  chunk_then chunk size rest =
      let computed = chunk_computed src chunk size in
      let stored = chunk_stored src chunk size in
      require (leb (chunk + 4) (map_end h)) (fault.MapChunk chunk)
      (require (chunk_fits h chunk size) (fault.MapChunk chunk)
      (require (eqb stored computed) (fault.MapCrc chunk computed stored)
      (checked_chunk_then chunk size rest)))

  -- the chunks from a place on, of which there are fewer than the map has bytes
  unfoldable pub chunks_from : ℕ → (chunk : ℕ) → Listing
  chunks_from zero chunk = stop (broken (fault.MapChunk chunk))
  chunks_from (suc k) chunk = chunk_then chunk (chunk_size src chunk) (chunks_from k (chunk + chunk_size src chunk + 2))

  -- a section's locator has its part's number
  abbrev pub part_then : Part → Listing → Listing
  part_then p rest = section_then src p (locator_of h (part_number p)).offset (locator_of h (part_number p)).size rest

  unfoldable pub plain_list : Listing
  plain_list = part_then HeaderVars (part_then Classes (chunks_from (map_size h) (map_start h)))
