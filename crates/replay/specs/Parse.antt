-- What the bytes behind `H` and `W` say: a header, and a state with no failure held. Numbers have their lowest byte first.
use Rattle.std.specs.Prelude.{ℕ, List, [], ◌∷◌, take, drop, get_or, eqb, None, if◌then◌else◌}
use Rattle.streaming.specs.declared.Locator.{Locator}
use Rattle.streaming.specs.declared.FlatHeader.{FlatHeader}
use Rattle.streaming.specs.declared.MapCursor.{MapCursor}
use Rattle.streaming.specs.declared.Stage.{Stage}
use Rattle.streaming.specs.declared.Stage.TheVariants as stage
use Rattle.streaming.specs.declared.FlatWalker.{FlatWalker}
-- the number that n bytes at a place make, and the locator, 9 bytes
pub use Rattle.form.specs.Form.{number_at, locator_at}

-- n bytes at a place
abbrev pub bytes_at : List ℕ → (at n : ℕ) → List ℕ
bytes_at s at n = take n (drop at s)

-- six locators, whatever the count
unfoldable pub locators_in : List ℕ → List Locator
locators_in s = locator_at s 8 ∷ locator_at s 17 ∷ locator_at s 26 ∷ locator_at s 35 ∷ locator_at s 44 ∷ locator_at s 53 ∷ []

-- a header, 69 bytes at place 1
unfoldable pub header_in : List ℕ → FlatHeader
header_in s = record {
  magic = bytes_at s 1 6;
  count = get_or s 7 0;
  locators = locators_in s;
  length = number_at s 62 8;
}

-- 1 to 6, in the walk's order
unfoldable pub stage_in : ℕ → Stage
stage_in n =
    if eqb n 1 then stage.Vars else
    (if eqb n 2 then stage.Classes else
    (if eqb n 3 then stage.Chunk else
    (if eqb n 4 then stage.Entry else
    (if eqb n 5 then stage.Object else stage.Done))))

-- the map's cursor, 46 bytes at place 111
unfoldable pub cursor_in : List ℕ → MapCursor
cursor_in s = record {
  chunk = number_at s 111 8;
  len = number_at s 119 4;
  at = number_at s 123 8;
  handle = number_at s 131 8;
  loc = number_at s 139 8;
  mc = number_at s 147 8;
  shift = get_or s 155 0;
  field = get_or s 156 0;
}

-- a state, 87 bytes at place 70, behind its header
unfoldable pub state_in : List ℕ → FlatWalker
state_in s = record {
  header = header_in s;
  stage = stage_in (get_or s 70 0);
  done = number_at s 71 4;
  size = number_at s 75 4;
  crc = number_at s 79 2;
  field = bytes_at s 81 4;
  head = bytes_at s 85 16;
  object = number_at s 101 8;
  ms_len = get_or s 109 0;
  words = get_or s 110 0;
  map = cursor_in s;
  failure = None;
}
