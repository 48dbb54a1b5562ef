-- The numbers that the loop has passed: none of their locators is outside.
use Prim.Native.Nat.{ℕ, ◌<◌}
use mathlib.Core.Bool.{false}
use mathlib.Core.Path.{◌≡◌}
use Rattle.rules.specs.Header.{is_outside}
use Rattle.header.proofs.start_answer.Given as goal

abbrev pub invariant-loop-number : goal.invariant-loop-number
invariant-loop-number l = (k : ℕ) → k < l.number → is_outside l.h k ≡ false
