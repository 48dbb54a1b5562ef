-- Laws of what is left of a walk: at a chunk, at an entry of it, and how an object is counted.
use Rattle.std.specs.Prelude.{Ok, Err}
use Prim.Native.Nat.{ℕ, zero, suc, ◌+◌, ◌-◌, ◌^◌, ◌≤◌, ◌<◌}
use mathlib.Core.List.{List}
use mathlib.Core.Option.{Option, none, some}
use mathlib.Core.Path.{◌≡◌, refl, sym, ap, ap₂, ◌∙◌}
use native.Mathlib.Omega.{arith}
use lib.ListN.{length, drop}
use borrow.Author.Tests.{lt-leb}
use Rattle.streaming.specs.Record.{object}
use Rattle.streaming.specs.declared.FlatHeader.{FlatHeader}
use Rattle.streaming.specs.declared.ObjectRecord.{ObjectRecord}
use Rattle.streaming.specs.Answers.{Asked, Ended}
use Rattle.streaming.specs.declared.Fault.TheVariants as fault
use Rattle.streaming.proofs.Choose.{in_both}
use Rattle.account.specs.Statement.{part, ended_by}
use Rattle.account.specs.Account.{broken}
use Rattle.account.proofs.Parts.{length_part, part-drop}
use Rattle.rules.specs.Header.{map_start, map_size, map_end}
use Rattle.rules.specs.Entry.{Entry, leads, refused, moved, entry_at, with_location, with_handle, location_delta, entry_in, followed, entries_from}
use Rattle.rules.specs.Map.{chunk_size, chunk_entries}
use Rattle.rules.specs.PlainList.{Listing, stop, first, require, object_then, entries_then, chunk_then, chunks_from}
use Rattle.rules.proofs.Entry.{Fits, entry_fits, Near, moved-near, entries_cons}
use Rattle.rules.proofs.Enough.{entries_settle, plain_settle}
use Rattle.survey.specs.Survey.{objects_of}
use Rattle.survey.specs.Counting.{counted, more, chunks_on, entries_on}
use Rattle.survey.specs.Goes.{Inside}
use Rattle.survey.specs.declared.entries.Leads.{Leads}
use Rattle.survey.specs.Entries.{entry_read}
use Rattle.survey.specs.declared.walk.Cursor.{Cursor}
use Rattle.survey.specs.declared.walk.Counted.{Counted}

pub counted-object : (r : ObjectRecord) (l : Listing) → counted (first (object r) l) ≡ more 1 (counted l)
unfolding counted objects_of
counted-object r l = ap (λ (n : ℕ). record { count = n; ending = ended_by l.ending }) (omega arith)

-- where the walk ends, the objects so far are all
pub stopped : (n : ℕ) (q : Asked) (e : Ended) (left total : Counted) → e ≡ ended_by q → left ≡ counted (stop q) → more n left ≡ total
    → record { count = n; ending = e } ≡ total
unfolding counted objects_of
stopped n q e left total d l t =
    ap₂ (λ (k : ℕ) (e : Ended). record { count = k; ending = e }) (omega arith) d ∙ ap (more n) (sym l) ∙ t

-- ---- chunks

module _ (h : FlatHeader) (src : List ℕ) where
  pub chunks_begin : chunks_from h src (map_size h) (map_start h) ≡ chunks_on h src (map_start h)
  unfolding chunks_on map_end
  chunks_begin = let e : map_size h ≡ map_start h + map_size h - map_start h = omega arith in ap (λ (k : ℕ). chunks_from h src k (map_start h)) e

  -- the chunks from a place on, with as many turns as are left of the map
  chunks_from_lem : (chunk k next : ℕ) → map_end h - chunk ≡ k → next ≡ chunk + chunk_size src chunk + 2
      → chunks_from h src k chunk ≡ chunk_then h src chunk (chunk_size src chunk) (chunks_from h src (map_end h - next) next)
  unfolding chunks_from chunk_then require
  chunks_from_lem chunk zero next e n = rw (lt-leb (chunk + 4) (map_end h) (omega arith))
  chunks_from_lem chunk (suc k) next e n =
      rw (← n) (ap (λ (rest : Listing). chunk_then h src chunk (chunk_size src chunk) rest)
      (plain_settle h src k (map_end h - next) next (omega arith) (omega arith)))

  -- a chunk, and the chunks behind it
  pub chunks_on_lem : (chunk : ℕ) → chunks_on h src chunk ≡ chunk_then h src chunk (chunk_size src chunk) (chunks_on h src (chunk + chunk_size src chunk + 2))
  unfolding chunks_on
  chunks_on_lem chunk = chunks_from_lem chunk (map_end h - chunk) (chunk + chunk_size src chunk + 2) refl refl

-- ---- entries

-- what an answer of `entry_at` tells of the rules' entry
pub leads-told : (e : Entry) (l : Leads) → Ok l ≡ entry_read e → e ≡ leads l.bytes l.to.handle l.to.location
leads-told (leads b m k) l e = let same : l ≡ record { bytes = b; to = record { handle = m; location = k } } = cc in rw same
leads-told (refused b) l e = cc

pub refused-told : (e : Entry) (bytes : ℕ) → Err bytes ≡ entry_read e → e ≡ refused bytes
refused-told (leads b m l) bytes e = cc
refused-told (refused b) bytes e = cc

-- a location stays below 2^63
abbrev pub NearEntry : Entry → Type 0
NearEntry (leads bytes handle location) = location < 2 ^ 63
NearEntry (refused bytes) = Unit {0}

near_at : (n handle : ℕ) (o : Option ℕ) → Near o → NearEntry (entry_at n handle o)
unfolding entry_at
near_at n handle none h = tt
near_at n handle (some location) h = h

near-location : (n handle location : ℕ) (bytes : List ℕ) (o : Option (List ℕ)) → location < 2 ^ 63 → NearEntry (with_location n handle location bytes o)
unfolding with_location
near-location n handle location bytes none h = tt
near-location n handle location bytes (some groups) h =
    near_at (n + length groups) handle (moved location (location_delta groups)) (moved-near location (location_delta groups) h)

pub near-handle : (handle location : ℕ) (bytes : List ℕ) (o : Option (List ℕ)) → location < 2 ^ 63 → NearEntry (with_handle handle location bytes o)
unfolding with_handle
near-handle handle location bytes none h = tt
near-handle handle location bytes (some groups) h = in_both NearEntry _ (λ e. near-location (length groups) _ location _ _ h) (λ e. tt)

module _ (h : FlatHeader) (src : List ℕ) (end : ℕ) (c : Cursor) (in-chunk : c.at < end) (inside : end ≤ length src) where
  abbrev bytes : List ℕ
  bytes = part src c.at (end - c.at)

  is_length : length bytes ≡ end - c.at
  is_length = length_part src c.at (end - c.at) (omega arith)

  -- the entry of so many bytes stands in the chunk
  pub leads-inside : (n handle location : ℕ) → entry_in c.last.handle c.last.location bytes ≡ leads n handle location
      → (1 ≤ n) × (c.at + n ≤ end)
  leads-inside n handle location e =
      let z = is_length in
      let f : Fits (length bytes) (leads n handle location) = rw e at (entry_fits c.last.handle c.last.location bytes (omega arith)) in
      (omega (arith, f.0), omega (arith, f.1))

  pub refused-inside : (n : ℕ) → entry_in c.last.handle c.last.location bytes ≡ refused n → (1 ≤ n) × (c.at + n ≤ end)
  refused-inside n e =
      let z = is_length in
      let f : Fits (length bytes) (refused n) = rw e at (entry_fits c.last.handle c.last.location bytes (omega arith)) in
      (omega (arith, f.0), omega (arith, f.1))

  module _ (rest : Listing) where
    -- the entries are this one and those behind it
    this_one : entries_on h src end c rest
        ≡ entries_then h src (followed (entry_in c.last.handle c.last.location bytes) λ n handle location. entries_from (end - c.at - 1) handle location (drop n bytes)) c.at rest
    unfolding entries_on
    this_one =
        let z = is_length in
        let k : end - c.at ≡ suc (end - c.at - 1) = omega arith in
        ap (λ (k : ℕ). entries_then h src (entries_from k c.last.handle c.last.location bytes) c.at rest) k
        ∙ ap (λ (es : List Entry). entries_then h src es c.at rest) (entries_cons (end - c.at - 1) c.last.handle c.last.location bytes (omega arith))

    pub entry_refused : (n : ℕ) → entry_in c.last.handle c.last.location bytes ≡ refused n → entries_on h src end c rest ≡ stop (broken (fault.MapEntry (c.at + n - 1)))
    unfolding followed entries_then
    entry_refused n e = this_one ∙ rw e

    pub entry_leads : (n handle location : ℕ) → entry_in c.last.handle c.last.location bytes ≡ leads n handle location → 1 ≤ n → c.at + n ≤ end
        → entries_on h src end c rest ≡ object_then h src handle location (entries_on h src end (record { at = c.at + n; last = record { handle = handle; location = location } }) rest)
    unfolding followed entries_then entries_on
    entry_leads n handle location e some_bytes fits =
        let left : end - c.at - n ≡ end - (c.at + n) = omega arith in
        let behind : drop n bytes ≡ part src (c.at + n) (end - (c.at + n))
        = part-drop src c.at n (end - c.at) (omega arith) (omega arith) ∙ ap (part src (c.at + n)) left in
        let z : length (part src (c.at + n) (end - (c.at + n))) ≡ end - (c.at + n) = length_part src (c.at + n) (end - (c.at + n)) (omega arith) in
        let more : entries_from (end - c.at - 1) handle location (drop n bytes) ≡ entries_from (end - (c.at + n)) handle location (part src (c.at + n) (end - (c.at + n)))
        = rw behind (entries_settle (end - c.at - 1) (end - (c.at + n)) handle location _ (omega arith) (omega arith)) in
        this_one ∙ rw e (ap (λ (es : List Entry). object_then h src handle location (entries_then h src es (c.at + n) rest)) more)

-- the entries of a chunk are those from its first on
pub entries_begin : (h : FlatHeader) (src : List ℕ) (chunk size : ℕ) (rest : Listing) → 2 ≤ size → chunk + size ≤ length src
    → entries_then h src (chunk_entries src chunk size) (chunk + 2) rest ≡ entries_on h src (chunk + size) (record { at = chunk + 2; last = record { handle = 0; location = 0 } }) rest
unfolding entries_on chunk_entries
entries_begin h src chunk size rest two inside =
    let n : chunk + size - (chunk + 2) ≡ size - 2 = omega arith in
    let z : length (part src (chunk + 2) (size - 2)) ≡ size - 2 = length_part src (chunk + 2) (size - 2) (omega arith) in
    rw (n, z)

-- behind the last entry comes the rest
pub entries_end : (h : FlatHeader) (src : List ℕ) (end : ℕ) (c : Cursor) (rest : Listing) → end ≤ c.at → entries_on h src end c rest ≡ rest
unfolding entries_on entries_then entries_from
entries_end h src end c rest e = let z : end - c.at ≡ 0 = omega arith in rw z

-- a chunk with entries is entered: what is left is what its entries and the chunks behind it give
pub chunk-entered : (h : FlatHeader) (src : List ℕ) (chunk size : ℕ) → Inside h src chunk size → map_end h ≤ length src
    → ((rest : Listing) → chunk_then h src chunk (chunk_size src chunk) rest ≡ entries_then h src (chunk_entries src chunk size) (chunk + 2) rest)
    → chunks_on h src chunk ≡ entries_on h src (chunk + size) (record { at = chunk + 2; last = record { handle = 0; location = 0 } }) (chunks_on h src (chunk + size + 2))
chunk-entered h src chunk size i inside e =
    chunks_on_lem h src chunk ∙ e _ ∙ rw (← i.said) (entries_begin h src chunk size _ (omega (arith, i.some)) (omega (arith, i.fits)))
