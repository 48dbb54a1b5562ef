-- Document 01's whole case in one call, by computation: with more places than are needed, and with none.
use Rattle.std.specs.Prelude.{Some, Ok, Err}
use Prim.Native.Nat.{ℕ}
use mathlib.Core.List.{[], ◌∷◌}
use mathlib.Core.Path.{◌≡◌, refl}
use Rattle.streaming.specs.declared.ObjectRecord.{ObjectRecord}
use Rattle.streaming.specs.declared.Part.TheVariants.{HeaderVars, Classes}
use Rattle.streaming.specs.declared.StreamError.TheVariants as error
use Rattle.streaming.specs.Answers.{Ended}
use Rattle.rules.specs.Section.{section_record}
use Rattle.rules.specs.PlainList.{require, section_then, verdict_then, sized_then, lacks_second_word, object_then, entries_then, checked_chunk_then, chunk_then, chunks_from, plain_list}
use Rattle.rules.proofs.EveryRule.{every_rule}
use Rattle.rules.proofs.Cases.{whole_header, whole}
use Rattle.survey.specs.Survey.{sections_of, objects_of, listed, length_refusal, survey_of}
use Rattle.survey.specs.declared.Walked.{Walked}
use Rattle.oneshot.specs.OneShot.{with_room, objects_for, front_of, list_after}

-- both sections, and so many objects
abbrev both : (count : ℕ) → Ended → Walked
both count ending = record {
  vars = Some (section_record HeaderVars 70 0);
  classes = Some (section_record Classes 108 0);
  count = count;
  ending = ending;
}

abbrev the_object : ObjectRecord
the_object = record { handle = 5; offset = 146; size = 3; type_code = 0 }

pub record WholeCase : Type 0 where
  -- one place, and one more: that one keeps what it held
  pub one : with_room 1 (survey_of whole_header whole) ≡ both 1 (Ok tt)
  pub two : with_room 2 (survey_of whole_header whole) ≡ both 1 (Ok tt)
  pub one_list : (a : ObjectRecord) → list_after whole_header whole (a ∷ []) ≡ the_object ∷ []
  pub two_list : (a b : ObjectRecord) → list_after whole_header whole (a ∷ b ∷ []) ≡ the_object ∷ b ∷ []
  -- no place: 18, and one is needed
  pub none : with_room 0 (survey_of whole_header whole) ≡ both 0 (Err (error.NoRoom 1))

pub whole_case : WholeCase
unfolding
    every_rule require section_then verdict_then sized_then lacks_second_word object_then entries_then checked_chunk_then chunk_then chunks_from plain_list
    sections_of objects_of listed length_refusal survey_of with_room objects_for front_of
whole_case = record { one = refl; two = refl; one_list = λ a. refl; two_list = λ a b. refl; none = refl }
