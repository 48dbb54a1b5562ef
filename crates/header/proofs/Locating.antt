-- A locator's look-up: what a search for a number finds in a list is the first of that number.
use Prim.Native.Nat.{ℕ}
use mathlib.Core.Path.{◌≡◌, refl}
use mathlib.Core.List.{List, [], ◌∷◌}
use mathlib.Core.Bool.{Bool, true, false, cond}
use Rattle.std.specs.Prelude.{eqb, Some, unwrap_or}
use Rattle.std.specs.List.{find}
use Rattle.streaming.specs.Choose.{when◌then◌else◌}
use Rattle.rules.specs.Header.{first_of}
use Rattle.streaming.specs.declared.Locator.{Locator}

abbrev pub missing : Locator
missing = record { number = 0; offset = 0; size = 0 }

pub first_found : (n : ℕ) (ls : List Locator) → unwrap_or (find (λ l. eqb l.number n) ls) missing ≡ first_of n ls
unfolding first_of when◌then◌else◌
first_found n [] = refl
first_found n (l ∷ ls) = step (eqb l.number n) (first_found n ls)
  where
    step : (t : Bool) → unwrap_or (find (λ k. eqb k.number n) ls) missing ≡ first_of n ls
        → unwrap_or (cond t (Some l) (find (λ k. eqb k.number n) ls)) missing ≡ (when t then l else first_of n ls)
    step true e = refl
    step false e = e
