-- The objects that are heard of a run are those that it commits, in the same order; and there are no more repeats than objects.
use Prim.Native.Nat.{ℕ, ◌≤◌}
use mathlib.Core.List.{List, [], ◌∷◌, ◌++◌}
use mathlib.Core.Path.{◌≡◌, refl, ap}
use native.Mathlib.Omega.{arith}
use lib.ListN.{length}
use lib.Dec.{eqb}
use Rattle.streaming.specs.Choose.{when◌then◌else◌}
use Rattle.streaming.specs.Record.{Record, section, object, objects_in, committed_in}
use Rattle.streaming.specs.declared.FlatWalker.{FlatWalker}
use Rattle.streaming.proofs.Choose.{in_both}
use Rattle.account.specs.Statement.{Call}
use Rattle.account.specs.Runs.{committed}
use Rattle.flat.specs.Flat.{feed_of}
use Rattle.stands.proofs.Fitness.{flat_walker}
use Rattle.tally.specs.History.{handles_of, handles_in, repeats}
use Rattle.tally.specs.Run.{heard_of, heard_in}

handles_add : (xs ys : List Record) → handles_of (xs ++ ys) ≡ handles_of xs ++ handles_of ys
unfolding handles_of
handles_add [] ys = refl
handles_add (section r ∷ xs) ys = handles_add xs ys
handles_add (object r ∷ xs) ys = ap (λ (hs : List ℕ). r.handle ∷ hs) (handles_add xs ys)

pub handles_heard : (cs : List Call) (s : FlatWalker) → handles_in (heard_in s cs) ≡ handles_of (committed flat_walker s cs)
unfolding handles_in heard_in handles_of
handles_heard [] s = refl
handles_heard (c ∷ cs) s =
    let next = (feed_of s c.offset c.piece).state in
    rw (handles_heard cs next, handles_add (committed_in (heard_of s c).answer) (committed flat_walker next cs))

pub handles_objects : (rs : List Record) → length (handles_of rs) ≡ objects_in rs
unfolding handles_of
handles_objects [] = refl
handles_objects (section r ∷ rs) = handles_objects rs
handles_objects (object r ∷ rs) = omega (arith, handles_objects rs)

pub repeats-few : (hs : List ℕ) → repeats hs ≤ length hs
unfolding repeats
repeats-few [] = omega arith
repeats-few (x ∷ []) = omega arith
repeats-few (x ∷ y ∷ more) =
    let one : (when eqb x y then 1 else 0) ≤ 1 = in_both (λ (n : ℕ). n ≤ 1) (eqb x y) (λ e. omega arith) (λ e. omega arith) in
    omega (arith, one, repeats-few (y ∷ more))
