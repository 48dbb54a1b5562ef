-- A list of inputs: each behind its length, four bytes with the lowest first.
use Rattle.std.specs.Prelude.{ℕ, List, Option}
use Rattle.octets.specs.Octets.{counted_size}

-- the bytes of the case that begins a list, its length included; none where the list is cut short
unfoldable pub case_size : List ℕ → Option ℕ
case_size s = counted_size s 0
