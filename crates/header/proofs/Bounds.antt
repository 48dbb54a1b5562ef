-- Bounds of what any header that code is handed says: a locator's offset and size are u32, so the map ends below 2^33.
use Prim.Native.Nat.{ℕ, zero, suc, ◌<◌, ◌^◌}
use native.Mathlib.Omega.{arith}
use mathlib.Core.List.{List, [], ◌∷◌}
use lib.ListN.{take}
use lib.Dec.{eqb}
use mir.Val.{Val}
use denote.Array.{each}
use denote.Shadow.{shadow}
use denote.Struct.Declared.{row}
use Rattle.streaming.specs.contracts.FlatWalker as walker
use Rattle.streaming.specs.contracts.Locator.{the_row}
use Rattle.streaming.proofs.Choose.{in_both}
use Rattle.streaming.specs.declared.Locator.{Locator}
use Rattle.streaming.specs.declared.FlatHeader.{FlatHeader}
use Rattle.streaming.specs.declared.FlatWalker.{FlatWalker}
use Rattle.rules.specs.Header.{first_of, locator_of, map_end}

record Small (l : Locator) : Type 0 where
  offset : l.offset < 2 ^ 32
  size : l.size < 2 ^ 32

-- what owning the locators tells of them
abbrev Owned : List Locator → List Val → Type 0
Owned ls us = shadow (each the_row.Denot the_row.own_val ls us)

first_small : (ls : List Locator) (us : List Val) (k n : ℕ) → Owned ls us → Small (first_of n (take k ls))
unfolding first_of
first_small ls us zero n p = record { offset = omega arith; size = omega arith }
first_small [] us (suc k) n p = record { offset = omega arith; size = omega arith }
first_small (l ∷ ls) [] (suc k) n p = absurd p
first_small (l ∷ ls) (u ∷ us) (suc k) n p =
    in_both Small (eqb l.number n)
    (λ e. record { offset = p.0.1.1.1.0.1; size = p.0.1.1.1.1.0.1 })
    (λ e. first_small ls us k n p.1)

module _ (h : FlatHeader) (us : List Val) (p : Owned h.locators us) where
  pub offset_below : (n : ℕ) → (locator_of h n).offset < 2 ^ 32
  unfolding locator_of
  offset_below n = (first_small h.locators us h.count n p).offset

  pub size_below : (n : ℕ) → (locator_of h n).size < 2 ^ 32
  unfolding locator_of
  size_below n = (first_small h.locators us h.count n p).size

  pub map_end_below : map_end h < 2 ^ 33
  unfolding map_end
  map_end_below = omega (arith, offset_below 2, size_below 2)

-- the same of a walk's state, for a function that is handed one: the last argument is `c.well_formed.0`
pub map_end_of : (s : FlatWalker) (vs : List Val) → shadow ((row walker.the_type).own_val s vs) → map_end s.header < 2 ^ 33
map_end_of s vs g = map_end_below s.header _ g.1.1.0.1.1.1.1.0.1.1
