-- Where a commit has to stand: at the last byte of its own record's unit, which is the last byte of its demand.
use Rattle.std.specs.Prelude.{ℕ, ◌+◌, List, [], ◌∷◌, ◌≡◌}
use Rattle.streaming.specs.Record.{Record, section, object, committed_in}
use Rattle.streaming.specs.Answers.{Asked, Answer}
use Rattle.account.specs.Account.{Account, ask, over}
use Rattle.rules.specs.Object.{Size, sized, unending, size_at}

abbrev pub field_bytes_of : Size → ℕ
field_bytes_of (sized field_bytes size) = field_bytes
field_bytes_of unending = 0

-- behind a section's data come a checksum of 2 bytes and a sentinel of 16; behind an object's a checksum of 2
unfoldable pub last_byte_of : (src : List ℕ) → Record → ℕ
last_byte_of src (section r) = r.data_offset + r.size + 17
last_byte_of src (object r) = r.offset + field_bytes_of (size_at src r.offset) + r.size + 1

module _ (src : List ℕ) where
  -- a byte, with so many left of its demand, that commits some records: none, or one whose last byte it is
  abbrev pub Placed : (at left : ℕ) → List Record → Type 0
  Placed at left [] = Unit {0}
  Placed at left (r ∷ rs) = (at ≡ last_byte_of src r) × (left ≡ 1) × (rs ≡ [])

  pub data CommitsLast : Account → Type 0 where
    none_left : {q : Asked} → CommitsLast (over q)
    each : {at left : ℕ} {says : Answer} {rest : Account} → Placed at left (committed_in says) → CommitsLast rest → CommitsLast (ask at left says rest)
