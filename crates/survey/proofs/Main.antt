-- The file to open first: what the answer of `survey` is by the rules' account, how large its count can be, and computed cases.
use Rattle.std.specs.Prelude.{Some, None, Ok, Err}
use Prim.Native.Nat.{ℕ, suc, ◌*◌, ◌≤◌}
use mathlib.Core.List.{List, [], ◌∷◌, ◌++◌}
use mathlib.Core.Path.{◌≡◌, refl, sym, ap, ◌∙◌}
use native.Mathlib.Omega.{arith}
use lib.ListN.{length, set}
use borrow.Author.Tests.{le-ltb}
use Rattle.streaming.specs.Choose.{when◌then◌else◌}
use Rattle.streaming.specs.Record.{Record, section, object, objects_in}
use Rattle.streaming.specs.declared.FlatHeader.{FlatHeader}
use Rattle.streaming.specs.declared.Part.TheVariants.{HeaderVars, Classes}
use Rattle.streaming.specs.declared.Fault.TheVariants as fault
use Rattle.streaming.specs.declared.StreamError.{StreamError}
use Rattle.streaming.specs.declared.StreamError.TheVariants as error
use Rattle.streaming.specs.Answers.{Ended}
use Rattle.rules.specs.Header.{map_size}
use Rattle.rules.specs.Section.{section_record}
use Rattle.rules.specs.Source.{Of}
use Rattle.rules.specs.Rules.{rules}
use Rattle.rules.specs.PlainList.{told, plain_list}
use Rattle.rules.proofs.Main.{agree, half_the_map}
use Rattle.rules.proofs.Facts.{every_fact}
use Rattle.rules.proofs.Cases.{whole, whole_header, stalling, stalling_header}
use Rattle.survey.specs.Survey.{sections_of, objects_of, listed, length_refusal, survey_of}
use Rattle.survey.specs.declared.Walked.{Walked}

objects_counted : (rs : List Record) → length (objects_of rs) ≡ objects_in rs
unfolding objects_of
objects_counted [] = refl
objects_counted (section r ∷ rs) = objects_counted rs
objects_counted (object r ∷ rs) = ap suc (objects_counted rs)

-- ---- for every header that Start takes and every whole source of it

module _ (h : FlatHeader) (src : List ℕ) (of : Of h src) where
  of_listing : survey_of h src ≡ listed (plain_list h src)
  unfolding survey_of length_refusal when◌then◌else◌
  of_listing = rw (of.starts, le-ltb h.length (length src) (omega (arith, of.whole)), le-ltb (length src) h.length (omega (arith, of.whole)))

  -- The answer is that of the rules' account: the records that a walk by calls commits, and its ending.
  pub by_account : survey_of h src ≡ listed (told (rules h src))
  by_account = of_listing ∙ ap listed (sym (agree h src of))

  -- A map of S bytes leads to at most S/2 objects.
  pub half_counted : 2 * (survey_of h src).count ≤ map_size h
  unfolding listed
  half_counted = rw (by_account, objects_counted (told (rules h src)).records) (half_the_map h src of)

-- ---- computed

-- the answer with both sections of the whole case
abbrev both : (count : ℕ) → Ended → Walked
both n e = record { vars = Some (section_record HeaderVars 70 0); classes = Some (section_record Classes 108 0); count = n; ending = e }

abbrev nothing : StreamError → Walked
nothing e = record { vars = None; classes = None; count = 0; ending = Err e }

pub record Computed : Type 0 where
  -- document 01's whole case
  pub whole_case_lem : survey_of whole_header whole ≡ both 1 (Ok tt)
  -- the last byte of the classes, and the first chunk's checksum: what came before stands
  pub classes_end : survey_of whole_header (set whole 145 0)
      ≡ record { vars = Some (section_record HeaderVars 70 0); classes = None; count = 0; ending = Err (error.Fault (fault.SectionSentinel 1)) }
  pub map_crc : survey_of whole_header (set whole 158 0xBD) ≡ both 0 (Err (error.Fault (fault.MapCrc 153 0xBCBD 0xBDBD)))
  -- the source ends before a second size word: 6 at its length
  pub stalled : survey_of (stalling_header 159) (stalling (0x01 ∷ 0x80 ∷ [])) ≡ both 0 (Err (error.Truncated 159 2))
  -- a source that is not as long as the header says: 5 where it is longer, 6 where it is shorter
  pub too_long : survey_of whole_header (whole ++ (0 ∷ [])) ≡ nothing (error.InvalidFeed 164 165)
  pub too_short : survey_of whole_header (0 ∷ []) ≡ nothing (error.Truncated 1 163)
  -- a start refusal comes before the length
  pub start_first : survey_of (stalling_header 110) [] ≡ nothing (error.LocatorRange 1)

pub computed : Computed
unfolding every_fact survey_of length_refusal listed sections_of objects_of
computed = record { whole_case_lem = refl; classes_end = refl; map_crc = refl; stalled = refl; too_long = refl; too_short = refl; start_first = refl }
