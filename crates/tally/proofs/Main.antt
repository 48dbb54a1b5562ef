-- The file to open first: what a tally says of a walk. Each theorem is about `tally_of` of a history, which by its contract `count` keeps, and `heard_in`,
-- the history of calls to `feed`.
use Rattle.std.specs.Prelude.{Ok, None}
use Prim.Native.Nat.{ℕ, ◌+◌, ◌^◌, ◌≤◌, ◌<◌}
use mathlib.Core.Bool.{false}
use mathlib.Core.List.{List, [], ◌∷◌, ◌++◌}
use mathlib.Core.Path.{◌≡◌, ap, ◌∙◌}
use native.Mathlib.Omega.{arith}
use lib.ListN.{length}
use Rattle.streaming.specs.Record.{objects_in}
use Rattle.streaming.specs.declared.FlatHeader.{FlatHeader}
use Rattle.streaming.specs.declared.FlatWalker.{FlatWalker}
use Rattle.account.specs.Statement.{Call, takes, Honest}
use Rattle.account.specs.Runs.{run, bytes, committed}
use Rattle.rules.specs.Source.{Of}
use Rattle.rules.specs.Payload.{sizes_of}
use Rattle.flat.specs.Flat.{request_of}
use Rattle.stands.proofs.Fitness.{begun, flat_walker}
use Rattle.tally.specs.History.{Heard, taken_as, is_accepted, bytes_in, framing_in, payload_in, open_payload, handles_of, handles_in, repeats}
use Rattle.tally.specs.Tally.{capped, tally_of, counted, counted_in}
use Rattle.tally.specs.Run.{heard_of, heard_in}
use Rattle.tally.proofs.Kept as K
use Rattle.tally.proofs.Acceptance as A
use Rattle.tally.proofs.Sums as S
use Rattle.tally.proofs.Objects as O
use Rattle.tally.proofs.Payload as P
use Rattle.tally.proofs.Limits as L
use Rattle.tally.proofs.Computed as C

-- ---- any history

-- Calls counted one by one, from the blank tally on, make the tally of their history.
pub counted_all : (hs : List Heard) → counted_in (tally_of []) hs ≡ tally_of hs
counted_all = S.counted_all

-- Framing and payload add up to the bytes accepted, pieces at fault included;
pub adds_up : (hs : List Heard) → framing_in hs + payload_in hs ≡ bytes_in hs
adds_up = S.adds_up

-- so they do in the tally, as far as it counts.
pub tally_adds_up : (hs : List Heard) → (tally_of hs).bytes ≡ capped ((tally_of hs).framing + (tally_of hs).payload)
unfolding tally_of
tally_adds_up hs = omega (arith, adds_up hs)

-- ---- any calls to the walk, in any state

module _ (s : FlatWalker) where
  -- A piece counts as accepted exactly where the statement takes its call;
  pub accepted_taken : (c : Call) → is_accepted (taken_as s.failure (heard_of s c).answer) ≡ takes (request_of s) c
  accepted_taken = A.accepted_taken s

  -- a call that is not taken leaves the tally as it was;
  pub refused_adds_nothing : (c : Call) → takes (request_of s) c ≡ false → (hs : List Heard) → tally_of (hs ++ (heard_of s c ∷ [])) ≡ tally_of hs
  refused_adds_nothing = A.refused_adds_nothing s

  -- and the bytes accepted are the bytes that the statement speaks of.
  pub bytes_taken_lem : (cs : List Call) → bytes_in (heard_in s cs) ≡ bytes flat_walker s cs
  bytes_taken_lem cs = A.bytes_taken_lem cs s

  -- One more call makes of the tally so far, counted with the failure held before it, the tally of the run so far.
  pub run_continued : (cs : List Call) (c : Call) → tally_of (heard_in s (cs ++ (c ∷ []))) ≡ counted (tally_of (heard_in s cs)) (heard_of (run flat_walker s cs) c)
  run_continued cs c = K.run_continued cs s c

  -- The objects counted are the object records committed, in their order, and so are the repeats.
  pub handles_committed : (cs : List Call) → handles_in (heard_in s cs) ≡ handles_of (committed flat_walker s cs)
  handles_committed cs = O.handles_heard cs s

  pub objects_committed : (cs : List Call) → length (handles_in (heard_in s cs)) ≡ objects_in (committed flat_walker s cs)
  objects_committed cs = ap length (handles_committed cs) ∙ O.handles_objects (committed flat_walker s cs)

  pub repeats-committed : (cs : List Call) → repeats (handles_in (heard_in s cs)) ≡ repeats (handles_of (committed flat_walker s cs))
  repeats-committed cs = ap repeats (handles_committed cs)

-- ---- a run over a source, from a header that Start takes

module _ (h : FlatHeader) (src : List ℕ) (of : Of h src) (cs : List Call) (honest : Honest flat_walker src (begun h) cs) where
  -- Payload is the sizes of what was committed, and the payload taken of the unit still open or failed.
  pub payload_so_far : payload_in (heard_in (begun h) cs) ≡ sizes_of (committed flat_walker (begun h) cs) + open_payload 0 (heard_in (begun h) cs)
  payload_so_far = P.payload_so_far_heard h src of cs honest

  -- A finished walk has no unit open: its payload is the sizes of its records.
  pub payload_in_all : request_of (run flat_walker (begun h) cs) ≡ Ok None
      → payload_in (heard_in (begun h) cs) ≡ sizes_of (committed flat_walker (begun h) cs)
  payload_in_all = P.payload_in_all_heard h src of cs honest

  -- The bytes are at most the sizes of locators 0 and 1, the map twice, and the source once for every two bytes of the map.
  pub bytes_bound : (tally_of (heard_in (begun h) cs)).bytes ≤ L.most_bytes h
  unfolding tally_of
  bytes_bound = omega (arith, L.bytes_at_most_lem h src of cs honest)

  -- Where that bound is below 2^64, no count stops at the top: each is the plain one;
  pub exact_below : L.most_bytes h < 2 ^ 64 → L.Exact (heard_in (begun h) cs)
  exact_below = L.exact_below h src of cs honest

  -- so is each for every source of at most 2^32 bytes.
  pub exact_source : h.length ≤ 2 ^ 32 → L.Exact (heard_in (begun h) cs)
  exact_source = L.exact_source h src of cs honest

-- ---- by computing

-- Document 01's whole case, cut in two ways: 97 bytes, 94 of framing, 3 of payload, one object, no repeat.
pub whole_case_lem : C.WholeCase
whole_case_lem = C.whole_case_lem

-- A piece at fault is framing, whole, and the calls behind it count nothing; nor does a call to a walk that failed on entering.
pub faulty : C.Faulty
faulty = C.faulty

-- Repeats are of the object just before.
pub repeating : C.Repeated
repeating = C.repeating

-- A count at the top stays there.
pub stopped : C.Stopped
stopped = C.stopped
