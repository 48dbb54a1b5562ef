-- Laws of a choice by a test, and of tests.
use mathlib.Core.Bool.{Bool, true, false, ◌&&◌, ◌||◌}
use mathlib.Core.Option.{Option, none, some}
use mathlib.Core.Path.{◌≡◌, refl, sym, ◌∙◌}
use native.Mathlib.Omega.{arith}
use Prim.Native.Nat.{ℕ}
use Rattle.streaming.specs.Choose.{when◌then◌else◌}

-- what holds of both outcomes, each under its test, holds of the choice
pub in_both : {A : Type 0} (P : A → Type 0) (t : Bool) {x y : A} → (t ≡ true → P x) → (t ≡ false → P y) → P (when t then x else y)
unfolding when◌then◌else◌
in_both P true f g = f refl
in_both P false f g = g refl

-- two choices by one test, where a function takes the outcomes of the one to those of the other
pub choose_alike : {A B : Type 0} (f : A → B) (t : Bool) {x y : A} {u v : B} → (t ≡ true → f x ≡ u) → (t ≡ false → f y ≡ v)
    → f (when t then x else y) ≡ (when t then u else v)
unfolding when◌then◌else◌
choose_alike f true p q = p refl
choose_alike f false p q = q refl

-- where a chain of refusals has none, its first test fails, and the rest has none
pub passed_by : {A : Type 0} (t : Bool) (r : A) (rest : Option A) → (when t then some r else rest) ≡ none → (t ≡ false) × (rest ≡ none)
unfolding when◌then◌else◌
passed_by true r rest e = let z : ◌≡◌ {A = ℕ} 0 1 = cc in absurd (omega arith)
passed_by false r rest e = (refl, e)

pub and_left : (a b : Bool) → (a && b) ≡ true → a ≡ true
and_left true b e = refl
and_left false b e = e

pub and_right : (a b : Bool) → (a && b) ≡ true → b ≡ true
and_right true b e = e
and_right false true e = refl
and_right false false e = e

pub or_right : (a b : Bool) → (a || b) ≡ false → b ≡ false
or_right true true e = e
or_right true false e = refl
or_right false b e = e

-- a result that equals a test, and what it shows where the test does
pub telling : {P : Type 0} (r t : Bool) → r ≡ t → (t ≡ true → P) → (r ≡ t) × (r ≡ true → P)
telling r t e shows = (e, λ h. shows (sym e ∙ h))
