-- The entries of a map chunk (§23.1): each is a handle delta and a location delta. A byte holds 7 low bits, the lowest group first, and its high bit
-- means that more follow.
use Rattle.std.specs.Prelude.{ℕ, zero, suc, ◌+◌, ◌*◌, ◌-◌, ◌/◌, ◌%◌, ◌^◌, min, Bool, true, false, ◌&&◌, List, [], ◌∷◌, length, take, drop, ltb, eqb}
use Rattle.std.proofs.Math.Option.{Option, none, some}
use Rattle.streaming.specs.Choose.{when◌then◌else◌}

-- ---- the bytes of a delta

-- a byte, and the rest of its delta if that is whole
abbrev pub before : ℕ → Option (List ℕ) → Option (List ℕ)
before b none = none
before b (some bs) = some (b ∷ bs)

-- up to the first byte whose high bit is clear; none where every high bit is set
unfoldable pub groups_of : List ℕ → Option (List ℕ)
groups_of [] = none
groups_of (b ∷ bs) = when ltb b 0x80 then some (b ∷ []) else before b (groups_of bs)

-- of the delta that some bytes begin with: a tenth byte is refused, last or not
abbrev pub delta_in : List ℕ → Option (List ℕ)
delta_in bytes = groups_of (take 9 bytes)

-- where no delta is whole, the number of the byte that is refused: the tenth, or the chunk's last
abbrev pub refused_in : List ℕ → ℕ
refused_in bytes = min 10 (length bytes)

-- ---- what a delta says

-- a handle moves by the sum of its groups
unfoldable pub handle_delta : List ℕ → ℕ
handle_delta [] = 0
handle_delta (b ∷ bs) = b % 0x80 + 0x80 * handle_delta bs

-- a location moves ahead or back
pub data Delta : Type 0 where
  ahead back : ℕ → Delta

-- in the last byte of a location 6 bits count
unfoldable pub magnitude : List ℕ → ℕ
magnitude [] = 0
magnitude (b ∷ []) = b % 0x40
magnitude (b ∷ c ∷ bs) = b % 0x80 + 0x80 * magnitude (c ∷ bs)

-- and 0x40 is the sign
unfoldable pub is_back : List ℕ → Bool
is_back [] = false
is_back (b ∷ []) = eqb (b / 0x40 % 2) 1
is_back (b ∷ c ∷ bs) = is_back (c ∷ bs)

-- a negative zero is zero
abbrev pub signed : (is_back : Bool) → ℕ → Delta
signed false n = ahead n
signed true zero = ahead 0
signed true (suc n) = back (suc n)

unfoldable pub location_delta : List ℕ → Delta
location_delta bytes = signed (is_back bytes) (magnitude bytes)

-- none where the location would be below 0 or above 2^63 - 1
unfoldable pub moved : (location : ℕ) → Delta → Option ℕ
moved location (ahead n) = when ltb (location + n) (2 ^ 63) then some (location + n) else none
moved location (back n) = when ltb location n then none else some (location - n)

-- ---- an entry

-- an entry of so many bytes leads to a handle and a location, or is refused at its last byte
pub data Entry : Type 0 where
  leads : (bytes handle location : ℕ) → Entry
  refused : (bytes : ℕ) → Entry

-- refused where it leads to no location
unfoldable pub entry_at : (bytes handle : ℕ) → Option ℕ → Entry
entry_at bytes handle none = refused bytes
entry_at bytes handle (some location) = leads bytes handle location

-- the location delta, behind n bytes of handle delta
unfoldable pub with_location : (n handle location : ℕ) (bytes : List ℕ) → Option (List ℕ) → Entry
with_location n handle location bytes none = refused (n + refused_in bytes)
with_location n handle location bytes (some groups) = entry_at (n + length groups) handle (moved location (location_delta groups))

-- the handle delta: the chunk goes on behind it, and the sum fits 64 bits
unfoldable pub with_handle : (handle location : ℕ) (bytes : List ℕ) → Option (List ℕ) → Entry
with_handle handle location bytes none = refused (refused_in bytes)
with_handle handle location bytes (some groups) =
    when ltb (length groups) (length bytes) && ltb (handle + handle_delta groups) (2 ^ 64) then
    (let behind = drop (length groups) bytes in
    with_location (length groups) (handle + handle_delta groups) location behind (delta_in behind))
    else refused (length groups)

-- the entry that some bytes of a chunk begin with, by the handle and the location before it
abbrev pub entry_in : (handle location : ℕ) → List ℕ → Entry
entry_in handle location bytes = with_handle handle location bytes (delta_in bytes)

-- ---- the entries of a chunk

-- an entry and what follows it; behind a refused one there is nothing
unfoldable pub followed : Entry → ((bytes handle location : ℕ) → List Entry) → List Entry
followed (leads bytes handle location) more = leads bytes handle location ∷ more bytes handle location
followed (refused bytes) more = refused bytes ∷ []

-- From a handle and a location on. The first number only bounds the recursion: as many as bytes are enough (proofs/Enough.antt).
unfoldable pub entries_from : ℕ → (handle location : ℕ) → List ℕ → List Entry
entries_from zero handle location bytes = []
entries_from (suc k) handle location [] = []
entries_from (suc k) handle location (b ∷ bs) =
    followed (entry_in handle location (b ∷ bs)) λ n handle location. entries_from k handle location (drop n (b ∷ bs))

-- in each chunk handle and location restart at 0
abbrev pub entries_of : List ℕ → List Entry
entries_of bytes = entries_from (length bytes) 0 0 bytes
