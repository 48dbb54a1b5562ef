-- `walk`: behind i steps the front of the list is overwritten by their records, and the cursor is that of step i.
use mathlib.Core.Path.{◌≡◌}
use Rattle.oneshot.specs.Cursor.{first_cursor, cursor_at, record_of}
use Rattle.oneshot.proofs.Over.{over}
use Rattle.oneshot.proofs.walk.Given as goal

abbrev pub invariant-loop-place : goal.invariant-loop-place
invariant-loop-place l = record {
  front_is : l.front ≡ over (record_of l.src (first_cursor l.fn.h)) l.place-index l.initial.front;
  cursor_is : l.c ≡ cursor_at l.src (first_cursor l.fn.h) l.place-index;
}
