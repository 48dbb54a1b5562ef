-- `fill` meets its contract: the front of the marked list is lent to `walk`, and the rest keeps its marks.
use Prim.Native.Nat.{ℕ, ◌-◌, ◌≤◌, min}
use mathlib.Core.List.{List, ◌++◌}
use mathlib.Core.Path.{◌≡◌, ap, ap₂, ◌∙◌}
use native.Mathlib.Omega.{arith}
use lib.ListN.{length, take, drop, replicate, length-replicate}
use Rattle.std.proofs.lemmas.List.{take-replicate, drop-replicate}
use Rattle.survey.specs.Survey.{survey_of}
use Rattle.streaming.specs.declared.ObjectRecord.{ObjectRecord}
use Rattle.oneshot.specs.OneShot.{with_room, list_after}
use Rattle.listing.specs.Listing.{most_places, mark}
use Rattle.listing.proofs.fill.Goals as goal

-- the list behind the call, if the front of k marks was lent and so came back
came_home : (n k most : ℕ) (f : List ObjectRecord → List ObjectRecord) (front : List ObjectRecord) → n ≡ k → k ≤ most
    → front ≡ f (take n (replicate most mark)) → front ++ drop n (replicate most mark) ≡ f (replicate k mark) ++ replicate (most - k) mark
came_home n k most f front e h is =
    let fits : n ≤ most = omega arith in
    ap₂ (λ (a b : List ObjectRecord). a ++ b)
    (is ∙ ap f (take-replicate n most mark fits ∙ ap (λ (j : ℕ). replicate j mark) e))
    (drop-replicate n most mark ∙ ap (λ (j : ℕ). replicate (most - j) mark) e)

places_lent : (n most : ℕ) → n ≤ most → length (take n (replicate most mark)) ≡ n
places_lent n most h = ap length (take-replicate n most mark h) ∙ length-replicate n mark

pub returns : goal.returns
returns c =
    let said = c.walk-walked.ensures in
    let n = c.min-n.result in
    let fits : n ≤ most_places = omega (arith, c.min-n.ensures) in (
      said.0 ∙ ap (λ (places : ℕ). with_room places (survey_of c.args.h c.args.src.now)) (places_lent n most_places fits ∙ c.min-n.ensures),
      came_home n (min c.args.places most_places) most_places (list_after c.args.h c.args.src.now) c.walk-walked.new.list c.min-n.ensures (omega arith) said.1,
    )
