-- A map of S bytes leads to at most S/2 object records.
use Prim.Native.Nat.{ℕ, ◌*◌, ◌≤◌}
use mathlib.Core.List.{List}
use mathlib.Core.Path.{ap}
use native.Mathlib.Omega.{arith}
use Rattle.streaming.specs.Record.{objects_in}
use Rattle.streaming.specs.declared.FlatHeader.{FlatHeader}
use Rattle.rules.specs.Header.{map_size}
use Rattle.rules.specs.Source.{Of}
use Rattle.rules.specs.Rules.{records}
use Rattle.rules.specs.PlainList.{Listing}
use Rattle.rules.proofs.PlainKept.{PlainKept, plain_keeps}
use Rattle.rules.proofs.PlainList.{agree}

-- twice the objects of a listing are at most n
record Half (n : ℕ) (l : Listing) : Type 0 where
  count : 2 * objects_in l.records ≤ n

half_kept : (h : FlatHeader) (src : List ℕ) → PlainKept h src Half
half_kept h src = record {
  stopped = λ room f. record { count = omega arith };
  finishing = λ room. record { count = omega arith };
  stalled = λ room location e f. record { count = omega arith };
  sections = λ room r l k. record { count = k.count };
  objects = λ room r l k. record { count = omega (arith, k.count) };
  wider = λ room more l m k. record { count = omega (arith, k.count) };
}

pub half_the_map : (h : FlatHeader) (src : List ℕ) → Of h src → 2 * objects_in (records h src) ≤ map_size h
half_the_map h src of = omega (arith, ap (λ l. objects_in l.records) (agree h src of), (plain_keeps h src Half (half_kept h src)).count)
