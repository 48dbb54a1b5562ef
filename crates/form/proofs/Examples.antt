-- The form on small inputs, computed: what is taken, what it says, and what is refused.
use Prim.Native.Nat.{ℕ}
use mathlib.Core.Bool.{true, false}
use mathlib.Core.List.{List, [], ◌∷◌, ◌++◌}
use mathlib.Core.Path.{◌≡◌, refl}
use Rattle.std.specs.Prelude.{Some}
use Rattle.octets.specs.Octets.{little_endian}
use Rattle.form.specs.Form.{stands, none_zero, first_cuts, is_form, locator_in, header_in, cuts_in, form_in, form_of}

-- one locator (number 2, offset 258, size 3), AC1014, the cuts given, and a source of two bytes
abbrev pub input : (cuts : List ℕ) → List ℕ
input cuts =
    (1 ∷ 0 ∷ 0 ∷ 0 ∷ 2 ∷ 2 ∷ 1 ∷ 0 ∷ 0 ∷ 3 ∷ 0 ∷ 0 ∷ 0 ∷ [])
    ++ (6 ∷ 0 ∷ 0 ∷ 0 ∷ 65 ∷ 67 ∷ 49 ∷ 48 ∷ 49 ∷ 52 ∷ []) ++ cuts ++ (2 ∷ 0 ∷ 0 ∷ 0 ∷ 7 ∷ 8 ∷ [])

abbrev pub two_cuts : List ℕ
two_cuts = 2 ∷ 0 ∷ 0 ∷ 0 ∷ 1 ∷ 2 ∷ 5 ∷ 0 ∷ []

pub taken : is_form (input two_cuts) ≡ true
unfolding is_form stands none_zero little_endian
taken = refl

-- the cuts are 513 and 5, and the source begins at 35
pub says : (form_of (input two_cuts) ≡ Some (form_in (input two_cuts)))
    × ((form_in (input two_cuts)).header.count ≡ 1) × ((form_in (input two_cuts)).header.length ≡ 2) × ((form_in (input two_cuts)).source ≡ 35)
    × ((form_in (input two_cuts)).cuts ≡ 513 ∷ 5 ∷ [])
unfolding form_of form_in header_in cuts_in first_cuts is_form stands none_zero little_endian
says = (refl, refl, refl, refl, refl)

pub located : (locator_in (input two_cuts) 0 ≡ record { number = 2; offset = 258; size = 3 }) × (locator_in (input two_cuts) 1 ≡ record { number = 0; offset = 0; size = 0 })
unfolding locator_in little_endian
located = (refl, refl)

-- a byte behind the source, and a cut of 0
pub refused : (is_form (input two_cuts ++ (0 ∷ [])) ≡ false) × (is_form (input (1 ∷ 0 ∷ 0 ∷ 0 ∷ 0 ∷ 0 ∷ [])) ≡ false)
unfolding is_form stands none_zero little_endian
refused = (refl, refl)
