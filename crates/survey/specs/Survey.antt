-- What the walk over a whole source comes to, by the rules' plain list and its ending.
use Rattle.std.specs.Prelude.{ℕ, ◌-◌, List, [], ◌∷◌, length, ltb, Option, None, Err, slice_get}
use Rattle.std.proofs.Math.Option as rules
use Rattle.streaming.specs.Choose.{when◌then◌else◌}
use Rattle.streaming.specs.Record.{Record, section, object}
use Rattle.streaming.specs.declared.FlatHeader.{FlatHeader}
use Rattle.streaming.specs.declared.SectionRecord.{SectionRecord}
use Rattle.streaming.specs.declared.ObjectRecord.{ObjectRecord}
use Rattle.streaming.specs.declared.StreamError.{StreamError}
use Rattle.streaming.specs.declared.StreamError.TheVariants as error
use Rattle.account.specs.Statement.{ended_by}
use Rattle.rules.specs.Header.{start_refusal}
use Rattle.rules.specs.PlainList.{Listing, plain_list}
use Rattle.survey.specs.declared.Walked.{Walked}

-- ---- the records of a list by their kind

unfoldable pub sections_of : List Record → List SectionRecord
sections_of [] = []
sections_of (section r ∷ rs) = r ∷ sections_of rs
sections_of (object r ∷ rs) = sections_of rs

unfoldable pub objects_of : List Record → List ObjectRecord
objects_of [] = []
objects_of (section r ∷ rs) = objects_of rs
objects_of (object r ∷ rs) = r ∷ objects_of rs

-- the section at an index, if there is one
abbrev pub found_at : ℕ → List SectionRecord → Option SectionRecord
found_at i rs = slice_get rs i

-- ---- what a walk comes to

-- a listing: the header variables come first, then the classes
unfoldable pub listed : Listing → Walked
listed l = record {
  vars = found_at 0 (sections_of l.records);
  classes = found_at 1 (sections_of l.records);
  count = length (objects_of l.records);
  ending = ended_by l.ending;
}

-- nothing is walked
abbrev pub refused_walk : StreamError → Walked
refused_walk e = record { vars = None; classes = None; count = 0; ending = Err e }

-- a source longer than the header says is refused as a piece too long is (5), a shorter one as an end too early (6)
unfoldable pub length_refusal : FlatHeader → (n : ℕ) → rules.Option StreamError
length_refusal h n =
    when ltb h.length n then rules.some (error.InvalidFeed h.length n)
    else when ltb n h.length then rules.some (error.Truncated n (h.length - n))
    else rules.none

-- the first refusal that there is, or else the walk
abbrev pub unless : rules.Option StreamError → Walked → Walked
unless rules.none walked = walked
unless (rules.some e) walked = refused_walk e

-- The start refusals come first, then the length; a header that Start takes and a source of its length have the rules' plain list.
unfoldable pub survey_of : FlatHeader → (src : List ℕ) → Walked
survey_of h src = unless (start_refusal h) (unless (length_refusal h (length src)) (listed (plain_list h src)))
