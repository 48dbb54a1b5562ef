-- Laws of a moved location: what the code's answer tells of it.
use Prim.Native.Nat.{ℕ, ◌-◌, ◌<◌, ◌≤◌}
use mathlib.Core.Bool.{true}
use mathlib.Core.Path.{◌≡◌, refl}
use mathlib.Core.Option.{Option, none, some}
use native.Mathlib.Omega.{arith}
use borrow.Author.Tests.{le-leb, lt-leb}
use Rattle.streaming.specs.Choose.{when◌then◌else◌}
use Rattle.entry.specs.Entry.{moved_by, moved_to}
use Rattle.std.specs.Prelude.{Some, None, SomeIff}
use Rattle.std.specs.Prelude as code

pub told_some : (o : Option ℕ) (location : ℕ) → Some location ≡ moved_to o → o ≡ some location
told_some none location e = cc
told_some (some to) location e = cc

pub told_none : (o : Option ℕ) → None ≡ moved_to o → o ≡ none
told_none none e = refl
told_none (some to) e = cc

pub moved_back : (o : code.Option ℕ) (location value : ℕ) → SomeIff o (value ≤ location) (location - value) → o ≡ moved_to (moved_by true location value)
unfolding moved_by when◌then◌else◌
moved_back (Some to) location value e = rw (le-leb _ _ e.0, e.1)
moved_back None location value e = let short : location < value = omega (arith, e) in rw (lt-leb _ _ short)
