-- `in_hand` meets its contract.
use borrow.Author.Tests.{eq-eqb, ne_eqb}
use Rattle.streaming.specs.Choose.{when◌then◌else◌}
use Rattle.oneshot.specs.Cursor.{in_hand}
use Rattle.oneshot.proofs.steps.in_hand.Goals as goal

pub returns-then-c : goal.returns-then-c
unfolding in_hand when◌then◌else◌
returns-then-c c = rw (eq-eqb _ _ c.if-c.true) c.opened.ensures

pub returns : goal.returns
unfolding in_hand when◌then◌else◌
returns c = rw (ne_eqb _ _ c.if-c.false)
