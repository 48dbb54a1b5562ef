-- Laws of what a listing comes to, by how far the walk came.
use Rattle.std.specs.Prelude.{Some, None, Result, Ok, Err}
use Prim.Native.Nat.{ℕ}
use mathlib.Core.List.{List}
use mathlib.Core.Option.{Option, none, some}
use mathlib.Core.Path.{◌≡◌, refl}
use Rattle.streaming.specs.Numbers.{part_number}
use Rattle.streaming.specs.Record.{section}
use Rattle.streaming.specs.declared.Locator.{Locator}
use Rattle.streaming.specs.declared.FlatHeader.{FlatHeader}
use Rattle.streaming.specs.declared.Part.{Part}
use Rattle.streaming.specs.declared.SectionRecord.{SectionRecord}
use Rattle.streaming.specs.declared.Fault.{Fault}
use Rattle.streaming.specs.declared.StreamError.{StreamError}
use Rattle.streaming.specs.declared.StreamError.TheVariants as error
use Rattle.header.specs.Start.{start_answer}
use Rattle.account.specs.Account.{broken}
use Rattle.rules.specs.Header.{locator_of}
use Rattle.rules.specs.PlainList.{Listing, stop, first, section_then, part_then}
use Rattle.survey.specs.Survey.{sections_of, objects_of, listed, refused_walk}
use Rattle.survey.specs.Goes.{section_goes}
use Rattle.survey.specs.Counting.{counted}
use Rattle.survey.specs.declared.walk.Counted.{Counted}

-- no section holds
pub listed_none : (f : Fault) → refused_walk (error.Fault f) ≡ listed (stop (broken f))
unfolding listed sections_of objects_of
listed_none f = refl

-- the first section holds, and the second does not
pub listed_vars : (v : SectionRecord) (f : Fault)
    → record { vars = Some v; classes = None; count = 0; ending = Err (error.Fault f) } ≡ listed (first (section v) (stop (broken f)))
unfolding listed sections_of objects_of
listed_vars v f = refl

-- both hold, and the map is walked
pub listed_both : (v c : SectionRecord) (l : Listing) (m : Counted) → m ≡ counted l
    → record { vars = Some v; classes = Some c; count = m.count; ending = m.ending } ≡ listed (first (section v) (first (section c) l))
unfolding listed sections_of objects_of counted
listed_both v c l m e = rw e

-- a part goes on as its section does, at the place that its locator gives
pub part_goes : (h : FlatHeader) (src : List ℕ) (p : Part) (l : Locator) (r s : Result SectionRecord Fault) (rest : Listing) → l ≡ locator_of h (part_number p)
    → ((rest : Listing) → section_then src p l.offset l.size rest ≡ section_goes r rest) → r ≡ s → part_then h src p rest ≡ section_goes s rest
part_goes h src p l r s rest e goes q = rw (← e, ← q) (goes rest)

-- what an answer of Start tells of the rules' refusal
pub begun_is : (o : Option StreamError) → Ok tt ≡ start_answer o → o ≡ none
begun_is none e = refl
begun_is (some e) d = cc

pub refused_is : (o : Option StreamError) (e : StreamError) → Err e ≡ start_answer o → o ≡ some e
refused_is none e d = cc
refused_is (some x) e d = cc
