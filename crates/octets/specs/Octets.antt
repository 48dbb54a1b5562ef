-- Bytes: the numbers that they make, how long a thing is that counts its bytes, and whether two lists of them are the same.
use Rattle.std.specs.Prelude.{ℕ, ◌+◌, ◌*◌, ◌^◌, Bool, true, false, ◌&&◌, List, [], ◌∷◌, length, take, drop, eqb, leb, Option, Some, None}

-- the lowest byte comes first
unfoldable pub little_endian : List ℕ → ℕ
little_endian [] = 0
little_endian (b ∷ bs) = b + 256 * little_endian bs

-- the highest byte comes first
unfoldable pub big_endian : List ℕ → ℕ
big_endian [] = 0
big_endian (b ∷ bs) = 256 ^ length bs * b + big_endian bs

-- the same bytes, and as many
unfoldable pub same : List ℕ → List ℕ → Bool
same [] [] = true
same [] (y ∷ ys) = false
same (x ∷ xs) [] = false
same (x ∷ xs) (y ∷ ys) = eqb x y && same xs ys

-- so many bytes, if they are there
abbrev pub if_there : Bool → ℕ → Option ℕ
if_there true n = Some n
if_there false n = None

-- how long a thing is that begins some bytes: the last four bytes of its front, from a place on, count the bytes behind it; none where it is cut short
unfoldable pub counted_size : List ℕ → (at : ℕ) → Option ℕ
counted_size s at = if_there (leb (at + 4 + little_endian (take 4 (drop at s))) (length s)) (at + 4 + little_endian (take 4 (drop at s)))
