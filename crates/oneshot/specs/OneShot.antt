-- The one-shot walk: what it answers, and what the lent list holds behind it.
use Rattle.std.specs.Prelude.{ℕ, List, [], ◌∷◌, ◌++◌, map, length, take, drop, leb, Option, Some, None, Err}
use Rattle.std.proofs.Math.Option as rules
use Rattle.streaming.specs.Choose.{when◌then◌else◌}
use Rattle.streaming.specs.Record.{Record, section, object}
use Rattle.streaming.specs.declared.FlatHeader.{FlatHeader}
use Rattle.streaming.specs.declared.ObjectRecord.{ObjectRecord}
use Rattle.streaming.specs.declared.StreamError.{StreamError}
use Rattle.streaming.specs.declared.StreamError.TheVariants as error
use Rattle.rules.specs.Header.{start_refusal}
use Rattle.rules.specs.PlainList.{plain_list}
use Rattle.survey.specs.Survey.{objects_of, length_refusal}
use Rattle.streaming.specs.declared.SectionRecord.{SectionRecord}
use Rattle.survey.specs.declared.Walked.{Walked}

-- More object records than places: 18 with their number, however the walk ends.
unfoldable pub with_room : (places : ℕ) → Walked → Walked
with_room places w =
    when leb w.count places then w
    else record { vars = w.vars; classes = w.classes; count = 0; ending = Err (error.NoRoom w.count) }

-- ---- the list

-- none where nothing is walked
abbrev pub unless_refused : rules.Option StreamError → List ObjectRecord → List ObjectRecord
unless_refused rules.none objects = objects
unless_refused (rules.some e) objects = []

-- the objects that the rules commit in a source of the header's length
unfoldable pub objects_for : FlatHeader → (src : List ℕ) → List ObjectRecord
objects_for h src = unless_refused (start_refusal h) (unless_refused (length_refusal h (length src)) (objects_of (plain_list h src).records))

-- a list with some records in place of its front; as it was where they are more than it has places
unfoldable pub front_of : (list records : List ObjectRecord) → List ObjectRecord
front_of list records = when leb (length records) (length list) then records ++ drop (length records) list else list

abbrev pub list_after : FlatHeader → (src : List ℕ) (list : List ObjectRecord) → List ObjectRecord
list_after h src list = front_of list (objects_for h src)

-- ---- what a caller reads

abbrev pub found : Option SectionRecord → List Record
found None = []
found (Some r) = section r ∷ []

-- from the answer the sections, then from the list as many objects as the answer counts
abbrev pub read_from : Walked → (list : List ObjectRecord) → List Record
read_from w list = found w.vars ++ found w.classes ++ map object (take w.count list)
