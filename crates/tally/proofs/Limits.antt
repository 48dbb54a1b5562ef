-- What bounds the counts of a run, and so that none of them stops at the top.
use Prim.Native.Nat.{ℕ, ◌+◌, ◌*◌, ◌/◌, ◌^◌, ◌≤◌, ◌<◌}
use mathlib.Core.List.{List}
use mathlib.Core.Path.{◌≡◌, ap}
use native.Mathlib.Omega.{arith}
use native.Mathlib.Nat.{mul-le-mul_left}
use lib.ListN.{length}
use Rattle.streaming.specs.declared.FlatHeader.{FlatHeader}
use Rattle.account.specs.Statement.{Call, Honest}
use Rattle.account.specs.Runs.{committed}
use Rattle.rules.specs.Source.{Of}
use Rattle.rules.specs.Header.{locator_of, map_size}
use Rattle.rules.proofs.Header.{started}
use Rattle.stands.proofs.Fitness.{begun, flat_walker}
use Rattle.stands.proofs.Main.{bytes_bound, half_the_map}
use Rattle.tally.specs.History.{Heard, bytes_in, framing_in, payload_in, handles_in, repeats}
use Rattle.tally.specs.Tally.{tally_of}
use Rattle.tally.specs.Run.{heard_in}
use Rattle.tally.proofs.Acceptance.{bytes_taken_lem}
use Rattle.tally.proofs.Objects.{handles_heard, handles_objects, repeats-few}
use Rattle.tally.proofs.Sums.{adds_up}

-- document 01's bound: the sizes of locators 0 and 1, the map twice, and the source once for every two bytes of the map
abbrev pub most_bytes : FlatHeader → ℕ
most_bytes h = (locator_of h 0).size + (locator_of h 1).size + 2 * map_size h + map_size h / 2 * h.length

-- every count is the plain one, not stopped at the top
pub record Exact (hs : List Heard) : Type 0 where
  pub bytes : (tally_of hs).bytes ≡ bytes_in hs
  pub framing : (tally_of hs).framing ≡ framing_in hs
  pub payload : (tally_of hs).payload ≡ payload_in hs
  pub objects : (tally_of hs).objects ≡ length (handles_in hs)
  pub repeats : (tally_of hs).repeats ≡ repeats (handles_in hs)

module _ (h : FlatHeader) (src : List ℕ) (of : Of h src) (cs : List Call) (honest : Honest flat_walker src (begun h) cs) where
  pub bytes_at_most_lem : bytes_in (heard_in (begun h) cs) ≤ most_bytes h
  bytes_at_most_lem = omega (arith, bytes_taken_lem cs (begun h), bytes_bound h src of cs honest)

  objects_at_most : 2 * length (handles_in (heard_in (begun h) cs)) ≤ map_size h
  objects_at_most =
      omega (arith, ap length (handles_heard cs (begun h)), handles_objects (committed flat_walker (begun h) cs), half_the_map h src of cs honest)

  pub exact_below : most_bytes h < 2 ^ 64 → Exact (heard_in (begun h) cs)
  unfolding tally_of
  exact_below small =
      let hs = heard_in (begun h) cs in
      let few : length (handles_in hs) < 2 ^ 64 = omega (arith, objects_at_most, small) in
      record {
        bytes = omega (arith, bytes_at_most_lem, small);
        framing = omega (arith, bytes_at_most_lem, small, adds_up hs);
        payload = omega (arith, bytes_at_most_lem, small, adds_up hs);
        objects = omega (arith, few);
        repeats = omega (arith, few, repeats-few (handles_in hs));
      }

  -- of a source of at most 2^32 bytes none stops: each locator lies inside it
  pub exact_source : h.length ≤ 2 ^ 32 → Exact (heard_in (begun h) cs)
  exact_source short =
      let s = started h of.starts in
      let product : map_size h / 2 * h.length ≤ map_size h / 2 * 2 ^ 32 = mul-le-mul_left (map_size h / 2) short in
      exact_below (omega (arith, product, short, s.vars, s.classes, s.map))
