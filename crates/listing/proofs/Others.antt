-- How many places of a list hold the mark, up to the first that does not.
use Prim.Native.Nat.{suc, ◌≤◌}
use mathlib.Core.Bool.{Bool, true, false}
use mathlib.Core.Path.{◌≡◌, refl, ap}
use mathlib.Core.List.{List, [], ◌∷◌}
use native.Mathlib.Omega.{arith}
use lib.ListN.{length}
use Rattle.std.specs.Prelude.{cond, take_while}
use Rattle.std.proofs.lemmas.List.Sums.{take_while-cons}
use Rattle.streaming.specs.Choose.{when◌then◌else◌}
use Rattle.streaming.specs.declared.ObjectRecord.{ObjectRecord}
use Rattle.listing.specs.Listing.{is_mark, marked}

-- they are its front
pub run_marked : (list : List ObjectRecord) → length (take_while is_mark list) ≡ marked list
unfolding marked when◌then◌else◌
run_marked [] = refl
run_marked (r ∷ rs) = rw (take_while-cons is_mark r rs) (split (is_mark r) (run_marked rs))
  where
    split : (b : Bool) → length (take_while is_mark rs) ≡ marked rs
        → length (cond b (r ∷ take_while is_mark rs) []) ≡ (when b then suc (marked rs) else 0)
    split true k = ap suc k
    split false k = refl

pub marked_within : (list : List ObjectRecord) → marked list ≤ length list
unfolding marked when◌then◌else◌
marked_within [] = omega arith
marked_within (r ∷ rs) = split (is_mark r) (marked_within rs)
  where
    split : (b : Bool) → marked rs ≤ length rs → (when b then suc (marked rs) else 0) ≤ suc (length rs)
    split true k = omega (arith, k)
    split false k = omega arith
