-- The list has a place for each record that a walk counts.
use Prim.Native.Nat.{ℕ, ◌≤◌, min}
use mathlib.Core.Path.{◌≡◌, sym, subst}
use native.Mathlib.Omega.{arith}
use Rattle.survey.specs.declared.Walked.{Walked}
use Rattle.oneshot.specs.OneShot.{with_room}
use Rattle.oneshot.proofs.Filling.{count_fits}
use Rattle.listing.specs.Listing.{most_places}

pub count_within : (places : ℕ) (w r : Walked) → r ≡ with_room (min places most_places) w → r.count ≤ most_places
count_within places w r e = subst (λ (z : Walked). z.count ≤ most_places) (sym e) (omega (arith, count_fits (min places most_places) w))
