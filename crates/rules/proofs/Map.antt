-- What the tests of a chunk show, and that its entries lie in it.
use Prim.Native.Nat.{ℕ, ◌+◌, ◌-◌, ◌≤◌}
use mathlib.Core.Bool.{true, ◌&&◌}
use mathlib.Core.List.{List}
use mathlib.Core.Path.{◌≡◌}
use native.Mathlib.Omega.{arith}
use lib.ListN.{length, drop, length-take}
use lib.Dec.{leb}
use borrow.Author.Tests.{leb-true}
use Rattle.streaming.specs.declared.FlatHeader.{FlatHeader}
use Rattle.streaming.proofs.Choose.{and_left, and_right}
use Rattle.account.specs.Statement.{part}
use Rattle.rules.specs.Header.{map_end}
use Rattle.rules.specs.Map.{chunk_entries, chunk_fits}
use Rattle.rules.proofs.Entry.{Within, entries_within}

pub fits_low : (h : FlatHeader) (chunk size : ℕ) → chunk_fits h chunk size ≡ true → 2 ≤ size
unfolding chunk_fits
fits_low h chunk size e = leb-true 2 size (and_left (leb 2 size) (leb size 2034) (and_left _ _ e))

pub fits_end : (h : FlatHeader) (chunk size : ℕ) → chunk_fits h chunk size ≡ true → chunk + size + 2 ≤ map_end h
unfolding chunk_fits
fits_end h chunk size e = leb-true (chunk + size + 2) (map_end h) (and_right (leb 2 size && leb size 2034) _ e)

pub chunk-within : (src : List ℕ) (chunk size : ℕ) → (room : ℕ) × (room ≤ size - 2) × Within room (chunk_entries src chunk size)
unfolding chunk_entries
chunk-within src chunk size =
    let bytes = part src (chunk + 2) (size - 2) in
    (length bytes, omega (arith, length-take (size - 2) (drop (chunk + 2) src)), entries_within _ _ _ bytes)
