-- In a whole source its sections and its map lie inside it.
use Prim.Native.Nat.{ℕ, ◌+◌, ◌≤◌}
use mathlib.Core.List.{List}
use native.Mathlib.Omega.{arith}
use lib.ListN.{length}
use Rattle.streaming.specs.declared.FlatHeader.{FlatHeader}
use Rattle.rules.specs.Header.{locator_of, map_end}
use Rattle.rules.specs.Source.{Of}
use Rattle.rules.proofs.Header.{started}

module _ (h : FlatHeader) (src : List ℕ) (of : Of h src) where
  pub vars_inside : (locator_of h 0).offset + (locator_of h 0).size ≤ length src
  vars_inside = omega (arith, (started h of.starts).vars, of.whole)

  pub classes_inside : (locator_of h 1).offset + (locator_of h 1).size ≤ length src
  classes_inside = omega (arith, (started h of.starts).classes, of.whole)

  pub map_inside : map_end h ≤ length src
  unfolding map_end
  map_inside = omega (arith, (started h of.starts).map, of.whole)
