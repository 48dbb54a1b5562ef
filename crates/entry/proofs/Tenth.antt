-- A delta's tenth byte: where more than 56 bits are held, no further byte is taken.
use Prim.Native.Nat.{ℕ, ◌<◌}
use mathlib.Core.Path.{◌≡◌}
use borrow.Author.Tests.{lt-leb}
use Rattle.streaming.specs.Choose.{when◌then◌else◌}
use Rattle.streaming.specs.declared.FlatWalker.{FlatWalker}
use Rattle.entry.specs.Entry.{feed_entry, refused_entry}

pub tenth_refused : (s : FlatWalker) (byte : ℕ) → 56 < s.map.shift → feed_entry s byte ≡ refused_entry s
unfolding feed_entry when◌then◌else◌
tenth_refused s byte h = rw (lt-leb _ _ h)
