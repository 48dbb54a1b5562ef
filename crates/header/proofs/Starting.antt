-- What Start refuses, by the first of the locators 0, 1 and 2 that is outside.
use Prim.Native.Nat.{ℕ, zero, suc, ◌<◌, ◌≤◌}
use mathlib.Core.Bool.{true, false}
use mathlib.Core.Path.{◌≡◌}
use native.Mathlib.Omega.{arith}
use borrow.Author.Tests.{le-ltb}
use Rattle.std.proofs.Math.Option.{none, some}
use Rattle.streaming.specs.Choose.{when◌then◌else◌}
use Rattle.streaming.specs.declared.FlatHeader.{FlatHeader}
use Rattle.streaming.specs.declared.StreamError.TheVariants as error
use Rattle.rules.specs.Header.{is_outside, start_refusal}

module _ (h : FlatHeader) (few : h.count ≤ 6) where
  pub first_outside : (n : ℕ) → n < 3 → ((k : ℕ) → k < n → is_outside h k ≡ false) → is_outside h n ≡ true → start_refusal h ≡ some (error.LocatorRange n)
  unfolding start_refusal when◌then◌else◌
  first_outside zero b before e = rw (le-ltb 6 _ few, e)
  first_outside (suc zero) b before e = rw (le-ltb 6 _ few, before 0 (omega arith), e)
  first_outside (suc (suc zero)) b before e = rw (le-ltb 6 _ few, before 0 (omega arith), before 1 (omega arith), e)
  first_outside (suc (suc (suc n))) b before e = absurd (omega arith)

  pub none_outside : ((k : ℕ) → k < 3 → is_outside h k ≡ false) → start_refusal h ≡ none
  unfolding start_refusal when◌then◌else◌
  none_outside before = rw (le-ltb 6 _ few, before 0 (omega arith), before 1 (omega arith), before 2 (omega arith))
