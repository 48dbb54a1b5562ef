-- What is read from the file header (§3.2), and what Start refuses.
use Rattle.std.specs.Prelude.{ℕ, ◌+◌, ◌*◌, Bool, List, [], ◌∷◌, take, ltb, eqb}
use Rattle.std.proofs.Math.Option.{Option, none, some}
use Rattle.streaming.specs.Choose.{when◌then◌else◌}
use Rattle.streaming.specs.declared.Locator.{Locator}
use Rattle.streaming.specs.declared.FlatHeader.{FlatHeader}
use Rattle.streaming.specs.declared.StreamError.{StreamError}
use Rattle.streaming.specs.declared.StreamError.TheVariants as error
use Rattle.octets.specs.Octets.{same}

-- ---- locators

-- the first of that number; a missing one is offset 0, size 0
unfoldable pub first_of : (number : ℕ) → List Locator → Locator
first_of n [] = record { number = 0; offset = 0; size = 0 }
first_of n (l ∷ ls) = when eqb l.number n then l else first_of n ls

-- only the counted locators are looked at
unfoldable pub locator_of : FlatHeader → (number : ℕ) → Locator
locator_of h n = first_of n (take h.count h.locators)

-- the object map is locator 2 (§23.1)
abbrev pub map_start : FlatHeader → ℕ
map_start h = (locator_of h 2).offset

abbrev pub map_size : FlatHeader → ℕ
map_size h = (locator_of h 2).size

unfoldable pub map_end : FlatHeader → ℕ
map_end h = map_start h + map_size h

-- ---- the header itself

-- where it ends: 25 bytes, 9 for each locator, and 18 of checksum and sentinel
abbrev pub header_end : FlatHeader → ℕ
header_end h = 43 + 9 * h.count

-- the magic of R2000 is AC1015
unfoldable pub is_r2000 : FlatHeader → Bool
is_r2000 h = same h.magic (0x41 ∷ 0x43 ∷ 0x31 ∷ 0x30 ∷ 0x31 ∷ 0x35 ∷ [])

-- ---- Start

-- the locator's bytes end behind the source
unfoldable pub is_outside : FlatHeader → (number : ℕ) → Bool
is_outside h n = ltb h.length ((locator_of h n).offset + (locator_of h n).size)

-- count above 6: refusal 1; then for numbers 0, 1, 2 in turn, offset + size above the length: refusal 2
unfoldable pub start_refusal : FlatHeader → Option StreamError
start_refusal h =
    when ltb 6 h.count then some (error.LocatorCount h.count)
    else when is_outside h 0 then some (error.LocatorRange 0)
    else when is_outside h 1 then some (error.LocatorRange 1)
    else when is_outside h 2 then some (error.LocatorRange 2)
    else none
