-- `opened` meets its contract.
use Prim.Native.Nat.{ℕ, ◌+◌, ◌≤◌, ◌<◌}
use mathlib.Core.List.{List}
use mathlib.Core.Path.{◌≡◌}
use native.Mathlib.Omega.{arith}
use lib.ListN.{length}
use borrow.Author.Tests.{le-leb, lt-leb}
use Rattle.streaming.specs.Choose.{when◌then◌else◌}
use Rattle.rules.specs.Map.{chunk_size}
use Rattle.oneshot.specs.declared.steps.Cursor.{Cursor}
use Rattle.oneshot.specs.Cursor.{opened_of}
use Rattle.oneshot.proofs.steps.opened.Goals as goal

module _ (src : List ℕ) (c : Cursor) where
  shut : length src < c.chunk + chunk_size src c.chunk + 2 → c ≡ opened_of src c
  unfolding opened_of when◌then◌else◌
  shut h = rw (lt-leb _ _ h)

  opens : (size : ℕ) → size ≡ chunk_size src c.chunk → c.chunk + size + 2 ≤ length src
      → record { r2000 = c.r2000; chunk = c.chunk + size + 2; at = c.chunk + 2; end = c.chunk + size; last = record { handle = 0; location = 0 } } ≡ opened_of src c
  unfolding opened_of when◌then◌else◌
  opens size e h = rw (← e, le-leb _ _ h)

pub returns-then-left-lt2 : goal.returns-then-left-lt2
returns-then-left-lt2 c = shut _ _ (omega (arith, c.if-left-lt2.true, c.saturating_sub-left.ensures))

pub returns-then-left-size : goal.returns-then-left-size
unfolding chunk_size
returns-then-left-size c = shut _ _ (omega (arith, c.if-left-size.true, c.be16_at-size.ensures, c.saturating_sub-left.ensures))

pub returns : goal.returns
unfolding chunk_size
returns c = opens _ _ c.be16_at-size.result c.be16_at-size.ensures (omega (arith, c.if-left-size.false, c.saturating_sub-left.ensures))
