-- The library's numbers of two and of four bytes at a place.
use Rattle.std.proofs.Common.{◌≡◌, ℕ, ◌+◌, ◌*◌, ◌≤◌, List, [], ◌∷◌, length, take, drop, ◌∙◌, ap, arith, length-take}
use Rattle.std.specs.Int.{w16, w32, from_le_bytes}
use Rattle.octets.specs.Octets.{little_endian}
use Rattle.octets.proofs.Laws.{four_bytes}
use Rattle.form.specs.Form.{number_at, cut_in}

two_bytes : (s : List ℕ) → length s ≤ 2 → from_le_bytes w16 s ≡ little_endian s
unfolding little_endian
two_bytes [] h = omega arith
two_bytes (a ∷ []) h = omega arith
two_bytes (a ∷ b ∷ []) h = omega arith
two_bytes (a ∷ b ∷ c ∷ s) h = absurd (omega arith)

module _ (s : List ℕ) (at : ℕ) where
  pub cut_is : (i r : ℕ) (bytes : List ℕ) → r ≡ from_le_bytes w16 bytes → bytes ≡ take 2 (drop (at + 2 * i) s) → r ≡ cut_in s at i
  cut_is i r bytes e k = e ∙ ap (from_le_bytes w16) k ∙ two_bytes _ (simp length-take (omega arith))

  pub four_is : (r : ℕ) (bytes : List ℕ) → r ≡ from_le_bytes w32 bytes → bytes ≡ take 4 (drop at s) → r ≡ number_at s at 4
  four_is r bytes e k = e ∙ ap (from_le_bytes w32) k ∙ four_bytes _ (simp length-take (omega arith))
