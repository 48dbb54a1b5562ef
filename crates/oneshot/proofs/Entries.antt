-- An entry that leads on lies in the bytes that it is read from, of which there may be none.
use Prim.Native.Nat.{ℕ, ◌≤◌}
use mathlib.Core.List.{List, [], ◌∷◌}
use mathlib.Core.Path.{◌≡◌, subst}
use native.Mathlib.Omega.{arith}
use lib.ListN.{length}
use Rattle.rules.specs.Entry.{Entry, leads, refused, groups_of, with_handle, entry_in}
use Rattle.rules.proofs.Entry.{Fits, entry_fits}

abbrev Inside : ℕ → Entry → Type 0
Inside room (leads bytes handle location) = bytes ≤ room
Inside room (refused bytes) = Unit {0}

fits-inside : (room : ℕ) (e : Entry) → Fits room e → Inside room e
fits-inside room (leads bytes handle location) f = f.1
fits-inside room (refused bytes) f = tt

entry_inside : (handle location : ℕ) (bytes : List ℕ) → Inside (length bytes) (entry_in handle location bytes)
unfolding with_handle groups_of
entry_inside handle location [] = tt
entry_inside handle location (b ∷ bs) = fits-inside (length (b ∷ bs)) (entry_in handle location (b ∷ bs)) (entry_fits handle location (b ∷ bs) (omega arith))

pub leads-inside : (handle location : ℕ) (bytes : List ℕ) {n hd loc : ℕ} → entry_in handle location bytes ≡ leads n hd loc → n ≤ length bytes
leads-inside handle location bytes e = subst (Inside (length bytes)) e (entry_inside handle location bytes)
