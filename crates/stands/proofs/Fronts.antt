-- A front of a list of records has no more objects than the list.
use Prim.Native.Nat.{◌+◌, ◌≤◌}
use mathlib.Core.List.{List, [], ◌∷◌, ◌++◌}
use mathlib.Core.Path.{◌≡◌, ap}
use native.Mathlib.Omega.{arith}
use Rattle.streaming.specs.Record.{Record, section, object, objects_in}
use Rattle.account.specs.Runs.{Front}

objects_add : (xs ys : List Record) → objects_in (xs ++ ys) ≡ objects_in xs + objects_in ys
objects_add [] ys = omega arith
objects_add (section r ∷ xs) ys = objects_add xs ys
objects_add (object r ∷ xs) ys = omega (arith, objects_add xs ys)

pub front_objects : {xs ys : List Record} → Front xs ys → objects_in xs ≤ objects_in ys
front_objects {xs} f = omega (arith, objects_add xs f.rest, ap objects_in f.whole_is)
