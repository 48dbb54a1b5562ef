-- The places behind the records of a walk, in a list that was marked before it: how many hold the mark still.
use Prim.Native.Nat.{ℕ, zero, suc, ◌+◌, ◌-◌, ◌≤◌, ◌<◌}
use mathlib.Core.Bool.{Bool, true, false}
use mathlib.Core.Path.{◌≡◌, refl, ◌∙◌, ap}
use mathlib.Core.List.{List, ◌++◌, append_assoc}
use native.Mathlib.Omega.{arith}
use lib.ListN.{length, drop, replicate, length-replicate}
use lib.Seq.{drop-append_seam}
use Rattle.std.proofs.lemmas.List.{replicate-append-replicate, drop-replicate}
use lib.Dec.{leb}
use borrow.Author.Tests.{leb-true, leb-false, le-leb, lt-leb}
use Rattle.streaming.specs.Choose.{when◌then◌else◌}
use Rattle.streaming.specs.declared.FlatHeader.{FlatHeader}
use Rattle.streaming.specs.declared.ObjectRecord.{ObjectRecord}
use Rattle.survey.specs.Survey.{listed, survey_of}
use Rattle.survey.specs.declared.Walked.{Walked}
use Rattle.oneshot.specs.OneShot.{with_room, objects_for, front_of}
use Rattle.oneshot.proofs.Either.{either}
use Rattle.listing.specs.Listing.{mark, is_mark, marked}

all_marked : (n : ℕ) → marked (replicate n mark) ≡ n
unfolding marked is_mark when◌then◌else◌
all_marked zero = refl
all_marked (suc n) = ap suc (all_marked n)

-- two runs of marks are one
marks_joined : (a b : ℕ) → marked (replicate a mark ++ replicate b mark) ≡ a + b
marks_joined a b = ap marked (replicate-append-replicate a b mark) ∙ all_marked (a + b)

module _ (w : Walked) (l : List ObjectRecord) (k most : ℕ) (counted : w.count ≡ length l) (fits : k ≤ most) where
  abbrev rest : List ObjectRecord
  rest = replicate (most - k) mark

  with_room_lem : length l ≤ k → length l + marked (drop (length l) ((l ++ drop (length l) (replicate k mark)) ++ rest)) ≡ most
  with_room_lem room =
      let behind : marked (drop (length l) ((l ++ drop (length l) (replicate k mark)) ++ rest)) ≡ (k - length l) + (most - k) =
      ap (λ (z : List ObjectRecord). marked (drop (length l) z)) (append_assoc l (drop (length l) (replicate k mark)) rest)
      ∙ ap marked (drop-append_seam l (drop (length l) (replicate k mark) ++ rest)) ∙ ap (λ (z : List ObjectRecord). marked (z ++ rest)) (drop-replicate (length l) k mark)
      ∙ marks_joined (k - length l) (most - k) in
      omega (arith, behind, room, fits)

  pub rest-marked : (with_room k w).count + marked (drop (with_room k w).count (front_of (replicate k mark) l ++ rest)) ≡ most
  unfolding with_room front_of when◌then◌else◌
  rest-marked = split (leb w.count k) refl
    where
      split : (b : Bool) → leb w.count k ≡ b → (with_room k w).count + marked (drop (with_room k w).count (front_of (replicate k mark) l ++ rest)) ≡ most
      split true t =
          let room : length l ≤ k = omega (arith, leb-true w.count k t, counted) in
          let wide : length l ≤ length (replicate k mark) = omega (arith, room, length-replicate k mark) in
          rw (t, le-leb (length l) (length (replicate k mark)) wide)
          (ap (λ (n : ℕ). n + marked (drop n ((l ++ drop (length l) (replicate k mark)) ++ rest))) counted ∙ with_room_lem room)
      split false t =
          let short : length (replicate k mark) < length l = omega (arith, leb-false w.count k t, counted, length-replicate k mark) in
          let all : marked (replicate k mark ++ rest) ≡ k + (most - k) = marks_joined k (most - k) in
          let sums : 0 + marked (replicate k mark ++ rest) ≡ most = omega (arith, all, fits) in
          rw (t, lt-leb (length l) (length (replicate k mark)) short) sums

pub counted_objects : (h : FlatHeader) (src : List ℕ) → (survey_of h src).count ≡ length (objects_for h src)
unfolding listed
counted_objects h src = either h src (λ (w : Walked) (l : List ObjectRecord). w.count ≡ length l) (λ e. refl) (λ of. refl)
