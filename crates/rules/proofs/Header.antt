-- A header that Start does not refuse has its three locators inside the source.
use Prim.Native.Nat.{ℕ, ◌+◌, ◌≤◌}
use mathlib.Core.Bool.{false}
use mathlib.Core.Option.{none}
use mathlib.Core.Path.{◌≡◌}
use borrow.Author.Tests.{ltb-false}
use Rattle.streaming.specs.declared.FlatHeader.{FlatHeader}
use Rattle.rules.specs.Header.{locator_of, is_outside, start_refusal}
use Rattle.streaming.proofs.Choose.{passed_by}

pub record Started (h : FlatHeader) : Type 0 where
  pub count : h.count ≤ 6
  pub vars : (locator_of h 0).offset + (locator_of h 0).size ≤ h.length
  pub classes : (locator_of h 1).offset + (locator_of h 1).size ≤ h.length
  pub map : (locator_of h 2).offset + (locator_of h 2).size ≤ h.length

inside : (h : FlatHeader) (n : ℕ) → is_outside h n ≡ false → (locator_of h n).offset + (locator_of h n).size ≤ h.length
unfolding is_outside
inside h n e = ltb-false h.length _ e

pub started : (h : FlatHeader) → start_refusal h ≡ none → Started h
unfolding start_refusal
started h e =
    let few = passed_by _ _ _ e in
    let vars = passed_by _ _ _ few.1 in
    let classes = passed_by _ _ _ vars.1 in
    let map = passed_by _ _ _ classes.1 in
    record { count = ltb-false 6 h.count few.0; vars = inside h 0 vars.0; classes = inside h 1 classes.0; map = inside h 2 map.0 }
