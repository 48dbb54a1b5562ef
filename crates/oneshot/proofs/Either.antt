-- A walk is refused and has no objects, or Start takes its header and its source is whole, and it has the plain list.
use Prim.Native.Nat.{ℕ}
use mathlib.Core.List.{List, []}
use mathlib.Core.Option.{Option, none, some}
use mathlib.Core.Path.{◌≡◌, refl}
use native.Mathlib.Omega.{arith}
use lib.ListN.{length}
use borrow.Author.Tests.{ltb-false, le-ltb}
use Rattle.streaming.specs.Choose.{when◌then◌else◌}
use Rattle.streaming.specs.declared.FlatHeader.{FlatHeader}
use Rattle.streaming.specs.declared.ObjectRecord.{ObjectRecord}
use Rattle.streaming.specs.declared.StreamError.{StreamError}
use Rattle.rules.specs.Header.{start_refusal}
use Rattle.rules.specs.Source.{Of}
use Rattle.rules.specs.PlainList.{plain_list}
use Rattle.streaming.proofs.Choose.{passed_by}
use Rattle.survey.specs.Survey.{objects_of, length_refusal, listed, refused_walk, unless, survey_of}
use Rattle.survey.specs.declared.Walked.{Walked}
use Rattle.oneshot.specs.OneShot.{unless_refused, objects_for}

-- ---- the length

as_long : (h : FlatHeader) (n : ℕ) → length_refusal h n ≡ none → n ≡ h.length
unfolding length_refusal
as_long h n e =
    let longer = passed_by _ _ _ e in
    let shorter = passed_by _ _ _ longer.1 in
    omega (arith, ltb-false h.length n longer.0, ltb-false n h.length shorter.0)

not_refused : (h : FlatHeader) (n : ℕ) → n ≡ h.length → length_refusal h n ≡ none
unfolding length_refusal when◌then◌else◌
not_refused h n e = rw (le-ltb h.length n (omega arith), le-ltb n h.length (omega arith))

module _ (h : FlatHeader) (src : List ℕ) where
  -- ---- what holds of both holds of every walk

  module _ (P : Walked → List ObjectRecord → Type 0) (refused : (e : StreamError) → P (refused_walk e) [])
      (goes : Of h src → P (listed (plain_list h src)) (objects_of (plain_list h src).records)) where
    by_length : start_refusal h ≡ none → (o : Option StreamError) → length_refusal h (length src) ≡ o
        → P (unless o (listed (plain_list h src))) (unless_refused o (objects_of (plain_list h src).records))
    by_length s (some e) l = refused e
    by_length s none l = goes (record { starts = s; whole = as_long h (length src) l })

    by_start : (o : Option StreamError) → start_refusal h ≡ o
        → P (unless o (unless (length_refusal h (length src)) (listed (plain_list h src))))
        (unless_refused o (unless_refused (length_refusal h (length src)) (objects_of (plain_list h src).records)))
    by_start (some e) s = refused e
    by_start none s = by_length s (length_refusal h (length src)) refl

    pub either : P (survey_of h src) (objects_for h src)
    unfolding survey_of objects_for
    either = by_start (start_refusal h) refl

  -- ---- a walk that is not refused

  module _ (of : Of h src) where
    pub walked : survey_of h src ≡ listed (plain_list h src)
    unfolding survey_of
    walked = rw (of.starts, not_refused h (length src) of.whole)

    pub objects_walked : objects_for h src ≡ objects_of (plain_list h src).records
    unfolding objects_for
    objects_walked = rw (of.starts, not_refused h (length src) of.whole)
