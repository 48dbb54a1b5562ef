-- The one-shot walk and the walk by calls have the same records, in the same order, and the same ending; and how many places are needed.
use Prim.Native.Nat.{ℕ, ◌*◌, ◌≤◌}
use mathlib.Core.List.{List, [], ◌∷◌, ◌++◌, map}
use mathlib.Core.Path.{◌≡◌, refl, sym, ap, ◌∙◌}
use native.Mathlib.Omega.{arith}
use lib.ListN.{length, drop}
use lib.Seq.{take-append_seam}
use borrow.Author.Tests.{le-leb}
use Rattle.streaming.specs.Choose.{when◌then◌else◌}
use Rattle.streaming.specs.Record.{Record, section, object, objects_in}
use Rattle.streaming.specs.declared.FlatHeader.{FlatHeader}
use Rattle.streaming.specs.declared.ObjectRecord.{ObjectRecord}
use Rattle.account.specs.Statement.{ended_by, Call, Honest}
use Rattle.account.specs.Runs.{run, committed, Past}
use Rattle.rules.specs.Header.{map_size}
use Rattle.rules.specs.Source.{Of}
use Rattle.rules.specs.PlainList.{Listing, plain_list}
use Rattle.rules.proofs.Main as R
use Rattle.stands.proofs.Fitness.{begun, flat_walker}
use Rattle.stands.proofs.Main as Stands
use Rattle.survey.specs.Survey.{sections_of, objects_of, found_at, listed, survey_of}
use Rattle.survey.specs.declared.Walked.{Walked}
use Rattle.oneshot.specs.OneShot.{with_room, front_of, list_after, found, read_from}
use Rattle.oneshot.proofs.Either.{either, walked, objects_walked}
use Rattle.oneshot.proofs.Shape.{InOrder, in_order}

-- ---- two ways

-- the one-shot walk over a source with a list, and a run of the walk by calls, say the same
pub record SameWalk (h : FlatHeader) (src : List ℕ) (list : List ObjectRecord) (cs : List Call) : Type 0 where
  pub records : read_from (with_room (length list) (survey_of h src)) (list_after h src list) ≡ committed flat_walker (begun h) cs
  pub ending : (with_room (length list) (survey_of h src)).ending ≡ flat_walker.end_of_input (run flat_walker (begun h) cs)

module _ (l : Listing) (list : List ObjectRecord) (room : length (objects_of l.records) ≤ length list) where
  roomy : with_room (length list) (listed l) ≡ listed l
  unfolding with_room listed when◌then◌else◌
  roomy = rw (le-leb (length (objects_of l.records)) (length list) room)

  read_all : InOrder l → read_from (listed l) (front_of list (objects_of l.records)) ≡ l.records
  unfolding listed front_of when◌then◌else◌
  read_all o =
      rw (le-leb (length (objects_of l.records)) (length list) room)
      (ap (λ (os : List ObjectRecord). found (found_at 0 (sections_of l.records)) ++ found (found_at 1 (sections_of l.records)) ++ map object os)
      (take-append_seam (objects_of l.records) (drop (length (objects_of l.records)) list)) ∙ sym o)

module _ (h : FlatHeader) (src : List ℕ) (of : Of h src) (list : List ObjectRecord) (room : (survey_of h src).count ≤ length list) where
  fits : length (objects_of (plain_list h src).records) ≤ length list
  unfolding listed
  fits = rw (walked h src of) at room

  answer_is : with_room (length list) (survey_of h src) ≡ listed (plain_list h src)
  answer_is = ap (with_room (length list)) (walked h src of) ∙ roomy (plain_list h src) list fits

  pub same_walk : (cs : List Call) → Honest flat_walker src (begun h) cs → Past src (flat_walker.request (run flat_walker (begun h) cs)) → SameWalk h src list cs
  unfolding listed
  same_walk cs honest past =
      let run_is = Stands.whole h src of cs honest past in
      let rules-are = R.agree h src of in
      record {
        records =
            ap (λ (w : Walked). read_from w (list_after h src list)) answer_is
            ∙ ap (λ (os : List ObjectRecord). read_from (listed (plain_list h src)) (front_of list os)) (objects_walked h src of)
            ∙ read_all (plain_list h src) list fits (in_order h src)
            ∙ sym (run_is.records ∙ ap (λ (l : Listing). l.records) rules-are);
        ending = ap (λ (w : Walked). w.ending) answer_is ∙ sym (run_is.end_of_input ∙ ap (λ (l : Listing). ended_by l.ending) rules-are);
      }

-- ---- places

objects_counted : (rs : List Record) → length (objects_of rs) ≡ objects_in rs
unfolding objects_of
objects_counted [] = refl
objects_counted (section r ∷ rs) = objects_counted rs
objects_counted (object r ∷ rs) = omega (arith, objects_counted rs)

pub half_the_map : (h : FlatHeader) (src : List ℕ) → 2 * (survey_of h src).count ≤ map_size h
unfolding listed
half_the_map h src =
    either h src (λ (w : Walked) (l : List ObjectRecord). 2 * w.count ≤ map_size h) (λ e. omega arith)
    λ of. omega (arith, R.half_the_map h src of, objects_counted (plain_list h src).records, ap (λ (l : Listing). objects_in l.records) (R.agree h src of))

pub half_is_enough : (h : FlatHeader) (src : List ℕ) (places : ℕ) → map_size h ≤ 2 * places → with_room places (survey_of h src) ≡ survey_of h src
unfolding with_room when◌then◌else◌
half_is_enough h src places e = rw (le-leb (survey_of h src).count places (omega (arith, half_the_map h src)))
