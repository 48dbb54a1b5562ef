-- `fill_once` meets its contract.
use Prim.Native.Nat.{ℕ}
use mathlib.Core.List.{List}
use mathlib.Core.Path.{◌≡◌, ap, ◌∙◌}
use Rattle.streaming.specs.declared.FlatHeader.{FlatHeader}
use Rattle.streaming.specs.declared.ObjectRecord.{ObjectRecord}
use Rattle.survey.specs.Survey.{survey_of}
use Rattle.survey.specs.declared.Walked.{Walked}
use Rattle.oneshot.specs.OneShot.{with_room}
use Rattle.listing.specs.Listing.{most_places, list_after_lent}
use Rattle.walk_speed.specs.Sums.{last_size, last_of}
use Rattle.walk_speed.proofs.fill_once.Goals as goal

last-is : (h given : FlatHeader) (src : List ℕ) (w : Walked) (list : List ObjectRecord) → w ≡ with_room most_places (survey_of h src) → list ≡ list_after_lent h src most_places → h ≡ given
    → last_size list w.count ≡ last_of given src
last-is h given src w list e l same = (λ i. last_size (l i) (e i).count) ∙ ap (λ (z : FlatHeader). last_of z src) same

pub returns : goal.returns
returns c =
    c.last_size.ensures ∙ last-is _ _ _ _ _ c.fill-listed.ensures.0 c.fill-listed.ensures.1 c.header-h.ensures
