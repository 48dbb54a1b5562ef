-- Laws of a thing that counts its bytes: it is cut short, or all of it is there.
use Prim.Native.Nat.{ℕ, ◌+◌, ◌≤◌, ◌<◌}
use mathlib.Core.Bool.{Bool, true, false}
use mathlib.Core.List.{List}
use mathlib.Core.Path.{◌≡◌, refl}
use lib.Dec.{leb}
use lib.ListN.{length, take, drop}
use native.Mathlib.Omega.{arith}
use borrow.Author.Tests.{le-leb, lt-leb, leb-true, leb-false}
use Rattle.std.specs.Bool.{then_some}
use Rattle.std.specs.Prelude.{Some, None}
use Rattle.octets.specs.Octets.{little_endian, counted_size}

module _ (s : List ℕ) (at n : ℕ) (counts : n ≡ little_endian (take 4 (drop at s))) where
  pub cut_short : length s < at + 4 + n → None ≡ counted_size s at
  unfolding counted_size
  cut_short h = rw (← counts) (rw (lt-leb (at + 4 + n) (length s) h))

  pub all_there : at + 4 + n ≤ length s → Some (at + 4 + n) ≡ counted_size s at
  unfolding counted_size
  all_there h = rw (← counts) (rw (le-leb (at + 4 + n) (length s) h))

  -- as many as are behind the front, or fewer
  pub counted : (behind : ℕ) → behind + (at + 4) ≡ length s → then_some (leb n behind) (at + 4 + n) ≡ counted_size s at
  counted behind e = split (leb n behind) refl
    where
      split : (v : Bool) → leb n behind ≡ v → then_some v (at + 4 + n) ≡ counted_size s at
      split true v = all_there (omega (arith, leb-true n behind v))
      split false v = cut_short (omega (arith, leb-false n behind v))
