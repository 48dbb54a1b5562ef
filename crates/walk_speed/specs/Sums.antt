-- What the speed command times: turns of a walk over a source in hand, and the sizes of the objects that they commit.
use Rattle.std.specs.Prelude.{ℕ, zero, suc, ◌+◌, ◌-◌, min, List, [], ◌∷◌, get_or, ltb, eqb, if◌then◌else◌, Ok, Err, Some, None}
use Rattle.streaming.specs.declared.Step.{Step}
use Rattle.streaming.specs.declared.Step.TheVariants as step
use Rattle.streaming.specs.Answers.{Answer, Asked}
use Rattle.streaming.specs.declared.Locator.{Locator}
use Rattle.streaming.specs.declared.FlatHeader.{FlatHeader}
use Rattle.streaming.specs.declared.FlatWalker.{FlatWalker}
use Rattle.streaming.specs.declared.Fed.{Fed}
use Rattle.streaming.specs.declared.ObjectRecord.{ObjectRecord}
use Rattle.account.specs.Statement.{part}
use Rattle.flat.specs.Flat.{request_of, feed_of}
use Rattle.survey.specs.Survey.{survey_of}
use Rattle.oneshot.specs.Cursor.{blank}
use Rattle.oneshot.specs.OneShot.{with_room}
use Rattle.listing.specs.Listing.{most_places, list_after_lent}

-- the size of the object that is committed
abbrev pub size_in : Step → ℕ
size_in step.Framing = 0
size_in (step.Payload part) = 0
size_in (step.Section r) = 0
size_in (step.Object r) = r.size
size_in step.Finished = 0

abbrev pub size_of : Answer → ℕ
size_of (Ok s) = size_in s
size_of (Err e) = 0

-- what is asked for is fed, at most so many bytes of it; where nothing is asked for, an empty piece
abbrev pub fed_by : Asked → FlatWalker → (src : List ℕ) (cut : ℕ) → Fed
fed_by (Ok (Some r)) s src cut = feed_of s r.offset (part src r.offset (min r.len cut))
fed_by (Ok None) s src cut = feed_of s 0 []
fed_by (Err e) s src cut = feed_of s 0 []

unfoldable pub turn_of : FlatWalker → (src : List ℕ) (cut : ℕ) → Fed
turn_of s src cut = fed_by (request_of s) s src cut

-- so many turns
unfoldable pub sum_of : ℕ → FlatWalker → (src : List ℕ) (cut : ℕ) → ℕ
sum_of zero s src cut = 0
sum_of (suc n) s src cut = size_of (turn_of s src cut).answer + sum_of n (turn_of s src cut).state src cut

abbrev pub locator_at : (number offset size : ℕ) → Locator
locator_at number offset size = record { number = number; offset = offset; size = size }

-- an R2000 drawing with three locators
abbrev pub header_of : (length vars vars_size classes classes_size map map_size : ℕ) → FlatHeader
header_of length vars vars_size classes classes_size map map_size = record {
  magic = 0x41 ∷ 0x43 ∷ 0x31 ∷ 0x30 ∷ 0x31 ∷ 0x35 ∷ [];
  count = 3;
  locators = locator_at 0 vars vars_size ∷ locator_at 1 classes classes_size ∷ locator_at 2 map map_size ∷ locator_at 0 0 0 ∷ locator_at 0 0 0 ∷ locator_at 0 0 0 ∷ [];
  length = length;
}

-- the size of the last of so many records, if a list has them and there is one
unfoldable pub last_size : List ObjectRecord → (count : ℕ) → ℕ
last_size list count = if eqb count 0 then 0 else if ltb most_places count then 0 else (get_or list (count - 1) blank).size

-- of the list that the one-shot walk fills
abbrev pub last_of : FlatHeader → (src : List ℕ) → ℕ
last_of h src = last_size (list_after_lent h src most_places) (with_room most_places (survey_of h src)).count
