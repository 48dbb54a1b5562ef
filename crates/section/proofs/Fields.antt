-- A list of four bytes, byte by byte: what the bytes of a partial number make once they are whole.
use Prim.Native.Nat.{ℕ}
use mathlib.Core.Path.{◌≡◌, refl, ap}
use mathlib.Core.List.{List, [], ◌∷◌}
use native.Mathlib.Omega.{arith}
use lib.ListN.{length, take, get_or}

pub four_bytes : (l : List ℕ) → length l ≡ 4 → get_or l 0 0 ∷ get_or l 1 0 ∷ get_or l 2 0 ∷ get_or l 3 0 ∷ [] ≡ l
four_bytes [] e = absurd (omega arith)
four_bytes (a ∷ []) e = absurd (omega arith)
four_bytes (a ∷ b ∷ []) e = absurd (omega arith)
four_bytes (a ∷ b ∷ x ∷ []) e = absurd (omega arith)
four_bytes (a ∷ b ∷ x ∷ d ∷ []) e = refl
four_bytes (a ∷ b ∷ x ∷ d ∷ y ∷ l) e = absurd (omega arith)

pub two_bytes : (l : List ℕ) → length l ≡ 4 → get_or l 0 0 ∷ get_or l 1 0 ∷ [] ≡ take 2 l
two_bytes l e = ap (take 2) (four_bytes l e)
