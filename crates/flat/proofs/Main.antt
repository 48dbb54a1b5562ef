-- The file to open first: the laws of the walk by calls, each in full, and where its proof stands.
use Rattle.std.specs.Prelude.{Ok, Err, Some}
use Prim.Native.Nat.{ℕ, ◌+◌, ◌≤◌, ◌<◌}
use mathlib.Core.Bool.{true, false}
use mathlib.Core.List.{List}
use mathlib.Core.Option.{Option, none}
use mathlib.Core.Path.{◌≡◌, ap}
use lib.ListN.{length}
use Rattle.streaming.specs.State.{refused_by}
use Rattle.streaming.specs.declared.FlatHeader.{FlatHeader}
use Rattle.streaming.specs.declared.Request.{Request}
use Rattle.streaming.specs.declared.Fault.{Fault}
use Rattle.streaming.specs.declared.StreamError.{StreamError}
use Rattle.streaming.specs.declared.StreamError.TheVariants as error
use Rattle.streaming.specs.declared.Stage.TheVariants as stage
use Rattle.streaming.specs.declared.FlatWalker.{FlatWalker}
use Rattle.account.specs.Statement.{Call}
use Rattle.rules.specs.Header.{start_refusal}
use Rattle.object.specs.Fit.{size_in_words}
use Rattle.flat.specs.Fit.{is_sound, fit_of, consistent_of}
use Rattle.flat.specs.Flat.{begun_of, started, start_of, request_at, request_of, end_of, feed_at, feed_of}
use Rattle.flat.proofs.Keeping.{Keeps}
use Rattle.flat.proofs.KeepingCalls.{walked}
use Rattle.flat.proofs.KeepingCalls as K
use Rattle.flat.proofs.Laws as L
use Rattle.flat.proofs.Saved.{oversized, eight_bytes, nine_bytes}
use Rattle.flat.proofs.Saved as S
use Rattle.flat.proofs.Demands.{SecondWord, InPlace}
use Rattle.flat.proofs.Demands as D

-- ---- the beginning

-- Where Start takes the header, `start` answers the very walk that the laws below and the theorems of crate `stands` begin with.
pub start_begins : (h : FlatHeader) → start_refusal h ≡ none → start_of h ≡ Ok (begun_of h)
unfolding start_of
start_begins h starts = ap (λ (r : Option StreamError). started r (begun_of h)) starts

-- ---- fitness: `Keeps t` says that t is fit, unless it holds a failure

-- A piece that a fit state asks for keeps fitness, in every stage.
pub piece_keeps : (s : FlatWalker) (piece : List ℕ) (r : Request) → fit_of s ≡ true → request_at s.stage s ≡ Ok (Some r)
    → 0 < length piece → length piece ≤ r.len → Keeps (feed_at s.stage s piece).state
piece_keeps s piece r fit asks some most = K.keeps s piece fit some r asks most

-- So does any call, whatever it offers.
pub call_keeps : (s : FlatWalker) (offset : ℕ) (piece : List ℕ) → Keeps s → Keeps (feed_of s offset piece).state
call_keeps = K.keeps_feed

-- From a header that Start takes, every list of calls leads to a state that is fit, unless it holds a failure.
module _ (h : FlatHeader) (starts : start_refusal h ≡ none) (cs : List Call) where
  pub run_fit : is_sound (walked (begun_of h) cs).failure ≡ true → fit_of (walked (begun_of h) cs) ≡ true
  run_fit = K.keeps_run h cs starts

  -- So refusal 19 is never answered in a run, neither by `request`
  pub request_never_bad : request_of (walked (begun_of h) cs) ≡ Err error.BadState → ⊥
  request_never_bad = L.request_never_bad (walked (begun_of h) cs) (K.keeps_run h cs starts)

  -- nor by `feed`.
  pub feed_never_bad : (offset : ℕ) (piece : List ℕ) → (feed_of (walked (begun_of h) cs) offset piece).answer ≡ Err error.BadState → ⊥
  feed_never_bad = L.feed_never_bad (walked (begun_of h) cs) (K.keeps_run h cs starts)

-- ---- faults and refusals

-- After a fault every call repeats it, and the state stays as it is.
module _ (s : FlatWalker) (f : Fault) (held : s.failure ≡ Some f) where
  pub request-repeats : request_of s ≡ Err (error.Fault f)
  request-repeats = L.held-request s f held

  pub end_repeats : end_of s ≡ Err (error.Fault f)
  end_repeats = L.held_end s f held

  pub feed-repeats : (offset : ℕ) (piece : List ℕ) → feed_of s offset piece ≡ refused_by (error.Fault f) s
  feed-repeats = L.held-feed s f held

module _ (s : FlatWalker) (offset : ℕ) (piece : List ℕ) where
  -- A fault that is answered is held from then on.
  pub fault_held : (f : Fault) → (feed_of s offset piece).answer ≡ Err (error.Fault f) → (feed_of s offset piece).state.failure ≡ Some f
  fault_held = L.fault_held s offset piece

  -- Any other refusal leaves the state as it was.
  pub refused_stays : (e : StreamError) → (feed_of s offset piece).answer ≡ Err e → ((f : Fault) → e ≡ error.Fault f → ⊥)
      → (feed_of s offset piece).state ≡ s
  refused_stays = L.refused_stays s offset piece

  -- No call changes the header.
  pub header_stays : (feed_of s offset piece).state.header ≡ s.header
  header_stays = L.header_stays s offset piece

-- ---- demands, in any state at all

module _ (s : FlatWalker) (r : Request) (asks : request_of s ≡ Ok (Some r)) where
  -- What is demanded is never 0 bytes.
  pub demand-some : 0 < r.len
  demand-some = (D.demand_proper s r asks).some

  -- It lies in its place: a section's in its locator, a chunk's and an entry's in the map, an object's in the source.
  pub demand_in_place : InPlace s.stage s r
  demand_in_place = (D.demand_proper s r asks).place

  -- It lies in the source, but for the second size word of an object.
  pub demand_in_source : (s.stage ≡ stage.Object → SecondWord s → ⊥) → r.offset + r.len ≤ s.header.length
  demand_in_source = D.demand_in_source s r asks

-- ---- saved states

-- A state that passes the Rust's own test is fit, if an object's size is one that its words can hold.
pub consistent_fit : (s : FlatWalker) → consistent_of s ≡ true → (s.stage ≡ stage.Object → size_in_words s ≡ true) → fit_of s ≡ true
consistent_fit = S.consistent_fit

-- The Rust's test alone does not show that: here is a state that passes it, and that no walk reaches.
pub consistent_is_less : (consistent_of oversized ≡ true) × (fit_of oversized ≡ false)
consistent_is_less = (S.oversized_consistent, S.oversized_unfit)

-- And a walk goes on from a state that passes it to one that does not, and that is fit: after nine continued bytes of an entry. So a state that is
-- saved there is refused by the Rust's test, though the walk reached it.
pub consistent_not_kept : (consistent_of eight_bytes ≡ true) × (consistent_of nine_bytes ≡ false) × (fit_of nine_bytes ≡ true)
consistent_not_kept = (S.eight_consistent, S.nine_inconsistent, S.nine_fit)
