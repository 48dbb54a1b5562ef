-- The file to open first: whatever a walk does, the places behind the records that it counts are as they were lent. The theorem is about the very
-- definitions that the contracts of `fill` and `first_other` cite: from the count on, `first_other` finds no other place in the list of `fill`.
use Prim.Native.Nat.{ℕ, ◌+◌, ◌≤◌}
use mathlib.Core.Path.{◌≡◌}
use mathlib.Core.List.{List}
use lib.ListN.{drop}
use Rattle.streaming.specs.declared.FlatHeader.{FlatHeader}
use Rattle.survey.specs.Survey.{survey_of}
use Rattle.oneshot.specs.OneShot.{with_room, objects_for}
use Rattle.listing.specs.Listing.{most_places, list_after_lent, marked}
use Rattle.listing.proofs.Rest.{rest-marked, counted_objects}

pub rest_as_lent : (h : FlatHeader) (src : List ℕ) (places : ℕ) → places ≤ most_places
    → (with_room places (survey_of h src)).count + marked (drop (with_room places (survey_of h src)).count (list_after_lent h src places)) ≡ most_places
rest_as_lent h src places fits = rest-marked (survey_of h src) (objects_for h src) places most_places (counted_objects h src) fits
