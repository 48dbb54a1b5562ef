-- What the loop that fills the list has to know: that there is room, and what the list holds in the end.
use Prim.Native.Nat.{ℕ, ◌≤◌, ◌<◌}
use mathlib.Core.Bool.{Bool, true, false}
use mathlib.Core.List.{List}
use mathlib.Core.Path.{◌≡◌, refl, ap, ◌∙◌}
use native.Mathlib.Omega.{arith}
use lib.ListN.{length, get_or}
use lib.Dec.{leb}
use borrow.Author.Tests.{leb-true, leb-false, le-leb, lt-leb}
use Rattle.streaming.specs.Choose.{when◌then◌else◌}
use Rattle.streaming.specs.declared.FlatHeader.{FlatHeader}
use Rattle.streaming.specs.declared.ObjectRecord.{ObjectRecord}
use Rattle.streaming.proofs.Choose.{in_both}
use Rattle.survey.specs.Survey.{listed, survey_of}
use Rattle.survey.specs.declared.Walked.{Walked}
use Rattle.oneshot.specs.Cursor.{blank, first_cursor, record_of}
use Rattle.oneshot.specs.OneShot.{with_room, objects_for, front_of, list_after}
use Rattle.oneshot.proofs.Over.{over, over_is}
use Rattle.oneshot.proofs.Visits.{Gives, gives_none, gives_objects}
use Rattle.oneshot.proofs.Either.{either}

pub count_fits : (places : ℕ) (w : Walked) → (with_room places w).count ≤ places
unfolding with_room
count_fits places w = in_both (λ (z : Walked). z.count ≤ places) _ (λ t. leb-true w.count places t) (λ t. omega arith)

-- the objects of a walk are counted, and the steps give them
record Objects (h : FlatHeader) (src : List ℕ) (w : Walked) (l : List ObjectRecord) : Type 0 where
  counted : w.count ≡ length l
  given : Gives src (first_cursor h) l

objects_are : (h : FlatHeader) (src : List ℕ) → Objects h src (survey_of h src) (objects_for h src)
unfolding listed
objects_are h src =
    either h src (Objects h src) (λ e. record { counted = refl; given = gives_none src (first_cursor h) }) (λ of. record { counted = refl; given = gives_objects src h of })

module _ (f : ℕ → ObjectRecord) (w : Walked) (l list : List ObjectRecord) (counted : w.count ≡ length l) (given : (i : ℕ) → i < length l → f i ≡ get_or l i blank) where
  room_filled : over f (with_room (length list) w).count list ≡ front_of list l
  unfolding with_room front_of when◌then◌else◌
  room_filled = split (leb w.count (length list)) refl
    where
      split : (b : Bool) → leb w.count (length list) ≡ b → over f (with_room (length list) w).count list ≡ front_of list l
      split true t =
          let room : length l ≤ length list = omega (arith, leb-true w.count (length list) t) in
          rw (t, le-leb (length l) (length list) room) (ap (λ (n : ℕ). over f n list) counted ∙ over_is f blank l list given room)
      split false t =
          let short : length list < length l = omega (arith, leb-false w.count (length list) t) in
          rw (t, lt-leb (length l) (length list) short)

pub filled : (h : FlatHeader) (src : List ℕ) (list : List ObjectRecord)
    → over (record_of src (first_cursor h)) (with_room (length list) (survey_of h src)).count list ≡ list_after h src list
filled h src list =
    let are = objects_are h src in
    room_filled (record_of src (first_cursor h)) (survey_of h src) (objects_for h src) list are.counted are.given
