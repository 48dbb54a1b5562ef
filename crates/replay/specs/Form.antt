-- The form of the input: operations one after another, each a letter and what follows it (oracle/README.md, `replay`).
use Rattle.std.specs.Prelude.{ℕ, zero, suc, Bool, true, false, ◌&&◌, ◌||◌, List, length, drop, get_or, eqb, leb, Option, Some, None, if◌then◌else◌}
use Rattle.std.specs.Bool.{then_some}
use Rattle.std.specs.Option.{option_map_or}
use Rattle.octets.specs.Octets.{counted_size}

-- `R`, `N`, `C` and `T` have nothing after them
unfoldable pub is_bare : (letter : ℕ) → Bool
is_bare letter = eqb letter 82 || eqb letter 78 || eqb letter 67 || eqb letter 84

-- `W`: header and state, 69 and 87 bytes; the stage is 1 to 6
unfoldable pub state_size : List ℕ → Option ℕ
state_size s = then_some (leb 157 (length s) && (leb 1 (get_or s 70 0) && leb (get_or s 70 0) 6)) 157

-- `F`: an offset of 8 bytes, a count of 4 and as many bytes
unfoldable pub feed_size : List ℕ → Option ℕ
feed_size s = counted_size s 9

-- the bytes of the operation that begins a list, if there is one and it is well formed; `H` is followed by a header, 69 bytes
unfoldable pub size_of : List ℕ → Option ℕ
size_of s =
    if eqb (length s) 0 then None else
    (if is_bare (get_or s 0 0) then Some 1 else
    (if eqb (get_or s 0 0) 72 then then_some (leb 70 (length s)) 70 else
    (if eqb (get_or s 0 0) 87 then state_size s else
    (if eqb (get_or s 0 0) 70 then feed_size s else None))))

-- whether a list is operations and nothing else; no operation is empty, so as many steps as bytes are enough
unfoldable pub is_whole : (steps : ℕ) → List ℕ → Bool
is_whole zero s = eqb (length s) 0
is_whole (suc steps) s = if eqb (length s) 0 then true else option_map_or (λ n. is_whole steps (drop n s)) (size_of s) false
