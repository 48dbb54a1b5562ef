-- What the tests of an object's place show.
use Prim.Native.Nat.{ℕ, ◌+◌, ◌*◌, ◌≤◌}
use mathlib.Core.Bool.{true}
use mathlib.Core.Path.{◌≡◌}
use lib.Dec.{leb}
use borrow.Author.Tests.{leb-true}
use Rattle.streaming.specs.declared.FlatHeader.{FlatHeader}
use Rattle.streaming.proofs.Choose.{and_left, and_right}
use Rattle.rules.specs.Header.{header_end}
use Rattle.rules.specs.Object.{may_start, may_end}

pub start-behind : (h : FlatHeader) (location : ℕ) → may_start h location ≡ true → 43 + 9 * h.count ≤ location
unfolding may_start
start-behind h location e = leb-true (header_end h) location (and_left (leb (header_end h) location) (leb (location + 2) h.length) (and_left _ _ e))

pub start-inside : (h : FlatHeader) (location : ℕ) → may_start h location ≡ true → location + 2 ≤ h.length
unfolding may_start
start-inside h location e = leb-true (location + 2) h.length (and_right (leb (header_end h) location) _ (and_left _ _ e))

pub end_inside : (h : FlatHeader) (location end : ℕ) → may_end h location end ≡ true → end ≤ h.length
unfolding may_end
end_inside h location end e = leb-true end h.length (and_left _ _ e)
