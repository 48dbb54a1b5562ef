-- The file to open first: what is proved of the rules, each statement in full, and where its proof stands.
use Rattle.std.specs.Prelude.{Ok, None}
use Prim.Native.Nat.{ℕ, ◌+◌, ◌*◌, ◌/◌, ◌≤◌}
use mathlib.Core.Bool.{Bool}
use mathlib.Core.List.{List}
use mathlib.Core.Path.{◌≡◌}
use lib.ListN.{length, take}
use Rattle.streaming.specs.Record.{objects_in}
use Rattle.streaming.specs.declared.FlatHeader.{FlatHeader}
use Rattle.account.specs.Account.{demand, records_within, bytes_at_most, payload_taken}
use Rattle.account.specs.Tidy.{Tidy}
use Rattle.rules.specs.Header.{locator_of, map_start, map_size}
use Rattle.rules.specs.Source.{Of}
use Rattle.rules.specs.Entry.{entries_from, entries_of}
use Rattle.rules.specs.Prologue.{prologue_of}
use Rattle.rules.specs.Map.{ask_chunks}
use Rattle.rules.specs.Rules.{rules, records, ending}
use Rattle.rules.specs.PlainList.{told, plain_list}
use Rattle.rules.specs.LastByte.{CommitsLast}
use Rattle.rules.specs.Stall.{Stall}
use Rattle.rules.specs.Payload.{sizes_of, payload_within, payload_in_hand}
use Rattle.rules.proofs.PlainList as Agreement
use Rattle.rules.proofs.Half as Half
use Rattle.rules.proofs.TakenBound as Bound
use Rattle.rules.proofs.LastByte as LastByte
use Rattle.rules.proofs.Stalls as Stalls
use Rattle.rules.proofs.Tidy as Tidying
use Rattle.rules.proofs.Payload as Payload
use Rattle.rules.proofs.Enough as Enough
use Rattle.rules.proofs.Prologue as Prologue
use Rattle.rules.proofs.Table as Table
use Rattle.rules.proofs.Cases as Cases
use Rattle.rules.proofs.EasyToGetWrong as Easy
use Rattle.rules.proofs.Limits as Limits

-- ---- the records and the ending

-- Of a header that Start takes and a whole source of it, the account has the records and the ending of the plain list.
pub agree : (h : FlatHeader) (src : List ℕ) → Of h src → told (rules h src) ≡ plain_list h src
agree = Agreement.agree

-- A map of S bytes leads to at most S/2 object records.
pub half_the_map : (h : FlatHeader) (src : List ℕ) → Of h src → 2 * objects_in (records h src) ≤ map_size h
half_the_map = Half.half_the_map

-- A walk stalls only at the source's end, for the second size word of an object.
pub stalls : (h : FlatHeader) (src : List ℕ) → Of h src → (at left : ℕ) → ending h src ≡ demand at left → Stall h src at left
stalls = Stalls.stalls

-- ---- the account, for every header and every source

-- A byte is asked for only where the source has it, demand by demand, and only the last byte of a demand says what a caller acts on, but for a fault.
pub rules_tidy : (h : FlatHeader) (src : List ℕ) → Tidy src (rules h src)
rules_tidy = Tidying.rules_tidy

-- Each commit stands at the last byte of its own record's unit.
pub commits_last : (h : FlatHeader) (src : List ℕ) → CommitsLast src (rules h src)
commits_last = LastByte.commits_last

-- A walk takes at most the bytes of both sections, of the map twice, and of the source once for every two bytes of the map.
pub bytes_bound : (h : FlatHeader) (src : List ℕ)
    → bytes_at_most (rules h src) ≤ (locator_of h 0).size + (locator_of h 1).size + 2 * map_size h + map_size h / 2 * h.length
bytes_bound = Bound.bytes_bound

-- After any number of bytes, the payload is the sizes of what was committed and what was taken of the unit in hand.
pub payload_so_far : (h : FlatHeader) (src : List ℕ) (n : ℕ)
    → payload_within n (rules h src) ≡ sizes_of (records_within n (rules h src)) + payload_in_hand 0 n (rules h src)
payload_so_far = Payload.payload_so_far

-- A finished walk has nothing in hand: its payload is the sizes of its records.
pub payload_in_all : (h : FlatHeader) (src : List ℕ) → ending h src ≡ Ok None → payload_taken (rules h src) ≡ sizes_of (records h src)
payload_in_all = Payload.payload_in_all

-- ---- numbers in the definitions that decide nothing

-- The counts that bound the recursion: any greater one gives the same.
pub chunks_enough : (h : FlatHeader) (src : List ℕ) (k : ℕ) → map_size h ≤ k → ask_chunks h src k (map_start h) ≡ ask_chunks h src (map_size h) (map_start h)
chunks_enough = Enough.chunks_enough

pub entries_enough : (k : ℕ) (bytes : List ℕ) → length bytes ≤ k → entries_from k 0 0 bytes ≡ entries_of bytes
entries_enough = Enough.entries_enough

-- The 16 bytes of an object's data that are looked at for its prologue: all of them give the same.
pub sixteen_enough : (r2000 : Bool) (bytes : List ℕ) → prologue_of r2000 (take 16 bytes) ≡ prologue_of r2000 bytes
sixteen_enough = Prologue.sixteen_enough

-- ---- by computing

-- Document 01's table to prove, all fourteen rows.
pub table : Table.Table
table = Table.table

-- Document 01's whole case: three records, 97 bytes, 3 of them payload.
pub whole_case : Cases.WholeCase
whole_case = Cases.whole_case

-- Damaged copies of it, each with its fault.
pub damaged : Cases.Damaged
damaged = Cases.damaged

-- Sources that end before or inside a second size word.
pub stalled : Cases.Stalled
stalled = Cases.stalled

-- What document 01 says is easy to get wrong.
pub easy_to_get_wrong : Easy.EasyToGetWrong
easy_to_get_wrong = Easy.easy_to_get_wrong

-- Limits: sums of entries, the least section, and what Start refuses.
pub entry_limits : Limits.EntryLimits
entry_limits = Limits.entry_limits

pub section_limits : Limits.SectionLimits
section_limits = Limits.section_limits

pub start_limits : Limits.StartLimits
start_limits = Limits.start_limits
