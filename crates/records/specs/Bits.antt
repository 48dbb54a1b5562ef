-- What taking bits answers.
use Rattle.std.specs.Prelude.{ℕ, ◌+◌, ◌-◌, ◌*◌, ◌^◌, ◌&&◌, List, length, ltb, leb, Option, Some, None, unwrap_or}
use Rattle.streaming.specs.Choose.{when◌then◌else◌}
use Rattle.rules.specs.Prologue.{bits_at}

-- the number of n bits at a place; nothing where the bits run out.
-- At most 64 bits are taken at once, and a place is below 2^64.
unfoldable pub taken_at : (bytes : List ℕ) (at n : ℕ) → Option ℕ
taken_at bytes at n =
    when leb n 64 && ltb (at + n) (2 ^ 64) && leb (at + n) (8 * length bytes) then Some (bits_at bytes at n) else None

-- the number that was taken, 0 for none
abbrev pub number : Option ℕ → ℕ
number taken = unwrap_or taken 0

-- the place n bits further on, or the last place
unfoldable pub further : (at n : ℕ) → ℕ
further at n = when ltb (2 ^ 64 - 1) (at + n) then 2 ^ 64 - 1 else at + n
