-- The walk's list where it is the function's own: every place marked, and the first ones lent.
use Rattle.std.specs.Prelude.{ℕ, suc, ◌-◌, Bool, ◌&&◌, List, [], ◌∷◌, ◌++◌, replicate, eqb}
use Rattle.streaming.specs.Choose.{when◌then◌else◌}
use Rattle.streaming.specs.declared.FlatHeader.{FlatHeader}
use Rattle.streaming.specs.declared.ObjectRecord.{ObjectRecord}
use Rattle.oneshot.specs.OneShot.{list_after}

-- the places of the list
abbrev pub most_places : ℕ
most_places = 4096

-- what a place holds before the walk: no record of a walk has size 0
abbrev pub mark : ObjectRecord
mark = record { handle = 1; offset = 2; size = 0; type_code = 3 }

-- the places that are lent, as the walk leaves them, and the marked rest
abbrev pub list_after_lent : FlatHeader → (src : List ℕ) (places : ℕ) → List ObjectRecord
list_after_lent h src places = list_after h src (replicate places mark) ++ replicate (most_places - places) mark

-- ---- whether the rest is as it was

unfoldable pub is_mark : ObjectRecord → Bool
is_mark r = eqb r.handle 1 && eqb r.offset 2 && eqb r.size 0 && eqb r.type_code 3

-- how many places of a list hold the mark before the first that does not
unfoldable pub marked : List ObjectRecord → ℕ
marked [] = 0
marked (r ∷ rs) = when is_mark r then suc (marked rs) else 0
