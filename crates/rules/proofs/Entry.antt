-- The entries of a chunk lie one behind another in its bytes: an entry takes two bytes at least, and a refused one at least one.
use Prim.Native.Nat.{ℕ, zero, suc, ◌+◌, ◌*◌, ◌-◌, ◌%◌, ◌^◌, ◌≤◌, ◌<◌}
use mathlib.Core.List.{List, [], ◌∷◌}
use mathlib.Core.Option.{Option, none, some}
use mathlib.Core.Path.{◌≡◌, refl}
use native.Mathlib.Omega.{arith}
use lib.ListN.{length, take, drop, length-take, length-drop}
use borrow.Author.Tests.{ltb-true}
use Rattle.streaming.proofs.Choose.{in_both, and_left}
use Rattle.rules.specs.Entry.{before, groups_of, delta_in, handle_delta, Delta, ahead, back, magnitude, is_back, location_delta, moved}
use Rattle.rules.specs.Entry.{Entry, leads, refused, entry_at, with_location, with_handle, entry_in, followed, entries_from}

-- ---- a delta takes a byte at least, and lies in what it is read from

abbrev pub Short : (room : ℕ) → Option (List ℕ) → Type 0
Short room none = Unit {0}
Short room (some groups) = (1 ≤ length groups) × (length groups ≤ room)

pub groups_short : (bytes : List ℕ) → Short (length bytes) (groups_of bytes)
unfolding groups_of
groups_short [] = tt
groups_short (b ∷ bs) = in_both (Short (suc (length bs))) _ (λ e. (omega arith, omega arith)) (λ e. longer (groups_of bs) (groups_short bs))
  where
    longer : (o : Option (List ℕ)) → Short (length bs) o → Short (suc (length bs)) (before b o)
    longer none s = tt
    longer (some groups) s = (omega arith, omega arith)

pub delta_short : (bytes : List ℕ) → Short (length bytes) (delta_in bytes)
delta_short bytes = wider (groups_of (take 9 bytes)) (groups_short (take 9 bytes))
  where
    wider : (o : Option (List ℕ)) → Short (length (take 9 bytes)) o → Short (length bytes) o
    wider none s = tt
    wider (some groups) s = (s.0, omega (arith, s.1, length-take 9 bytes))

-- ---- what a delta says, by its first group and the others

module _ (b : ℕ) where
  pub handle-more : (bs : List ℕ) → 1 ≤ length bs → handle_delta (b ∷ bs) ≡ b % 0x80 + 0x80 * handle_delta bs
  unfolding handle_delta
  handle-more bs h = refl

  pub magnitude-more : (bs : List ℕ) → 1 ≤ length bs → magnitude (b ∷ bs) ≡ b % 0x80 + 0x80 * magnitude bs
  unfolding magnitude
  magnitude-more [] h = absurd (omega arith)
  magnitude-more (c ∷ bs) h = refl

  -- the sign stands in the last group
  pub back_more : (bs : List ℕ) → 1 ≤ length bs → is_back (b ∷ bs) ≡ is_back bs
  unfolding is_back
  back_more [] h = absurd (omega arith)
  back_more (c ∷ bs) h = refl

-- a location stays below 2^63
abbrev pub Near : Option ℕ → Type 0
Near none = Unit {0}
Near (some location) = location < 2 ^ 63

pub moved-near : (location : ℕ) (d : Delta) → location < 2 ^ 63 → Near (moved location d)
unfolding moved
moved-near location (ahead n) h = in_both Near _ (λ e. ltb-true (location + n) (2 ^ 63) e) (λ e. tt)
moved-near location (back n) h = in_both Near _ (λ e. tt) (λ e. omega arith)

-- ---- an entry

-- an entry in so much room: one that leads somewhere has two deltas
abbrev pub Fits : (room : ℕ) → Entry → Type 0
Fits room (leads bytes handle location) = (2 ≤ bytes) × (bytes ≤ room)
Fits room (refused bytes) = (1 ≤ bytes) × (bytes ≤ room)

at_fits : (room n handle : ℕ) (o : Option ℕ) → 2 ≤ n → n ≤ room → Fits room (entry_at n handle o)
unfolding entry_at
at_fits room n handle none k l = (omega arith, l)
at_fits room n handle (some location) k l = (k, l)

location-fits : (room n handle location : ℕ) (bytes : List ℕ) (o : Option (List ℕ)) → Short (length bytes) o → 1 ≤ n → n + length bytes ≤ room
    → Fits room (with_location n handle location bytes o)
unfolding with_location
location-fits room n handle location bytes none s k l = (omega arith, omega arith)
location-fits room n handle location bytes (some groups) s k l =
    at_fits room (n + length groups) handle (moved location (location_delta groups)) (omega (arith, s.0)) (omega (arith, s.1))

handle-fits : (handle location : ℕ) (bytes : List ℕ) (o : Option (List ℕ)) → 1 ≤ length bytes → Short (length bytes) o
    → Fits (length bytes) (with_handle handle location bytes o)
unfolding with_handle
handle-fits handle location bytes none k s = (omega arith, omega arith)
handle-fits handle location bytes (some groups) k s =
    in_both (Fits (length bytes)) _
    (λ e. let l : length groups < length bytes = ltb-true (length groups) (length bytes) (and_left _ _ e) in
    location-fits (length bytes) (length groups) _ location (drop (length groups) bytes) _ (delta_short (drop (length groups) bytes)) s.0
    (omega (arith, length-drop (length groups) bytes)))
    (λ e. s)

pub entry_fits : (handle location : ℕ) (bytes : List ℕ) → 1 ≤ length bytes → Fits (length bytes) (entry_in handle location bytes)
entry_fits handle location bytes k = handle-fits handle location bytes (delta_in bytes) k (delta_short bytes)

-- ---- the entries

pub entries_nil : (k handle location : ℕ) → entries_from k handle location [] ≡ []
unfolding entries_from
entries_nil zero handle location = refl
entries_nil (suc k) handle location = refl

-- one, and the others behind its bytes
pub entries_cons : (k handle location : ℕ) (bytes : List ℕ) → 1 ≤ length bytes
    → entries_from (suc k) handle location bytes ≡ followed (entry_in handle location bytes) λ n handle location. entries_from k handle location (drop n bytes)
unfolding entries_from
entries_cons k handle location [] h = absurd (omega arith)
entries_cons k handle location (b ∷ bs) h = refl

abbrev pub Within : (room : ℕ) → List Entry → Type 0
Within room [] = Unit {0}
Within room (leads bytes handle location ∷ more) = (2 ≤ bytes) × (bytes ≤ room) × Within (room - bytes) more
Within room (refused bytes ∷ more) = (1 ≤ bytes) × (bytes ≤ room)

followed-within : (room : ℕ) (e : Entry) (more : (bytes handle location : ℕ) → List Entry) → Fits room e
    → ((n handle location : ℕ) → Within (room - n) (more n handle location)) → Within room (followed e more)
unfolding followed
followed-within room (leads bytes handle location) more f w = (f.0, f.1, w bytes handle location)
followed-within room (refused bytes) more f w = f

pub entries_within : (k handle location : ℕ) (bytes : List ℕ) → Within (length bytes) (entries_from k handle location bytes)
unfolding entries_from
entries_within zero handle location bytes = tt
entries_within (suc k) handle location [] = tt
entries_within (suc k) handle location (b ∷ bs) =
    followed-within (suc (length bs)) (entry_in handle location (b ∷ bs)) _ (entry_fits handle location (b ∷ bs) (omega arith))
    λ n handle location. rw (← length-drop n (b ∷ bs)) (entries_within k handle location (drop n (b ∷ bs)))
