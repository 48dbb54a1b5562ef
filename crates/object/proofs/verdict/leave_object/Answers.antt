-- `leave_object` meets its contract.
use borrow.Author.Tests.{eq-eqb, ne_eqb}
use Rattle.streaming.specs.Choose.{when◌then◌else◌}
use Rattle.object.specs.Object.{leave_object}
use Rattle.object.proofs.verdict.leave_object.Goals as goal

pub returns-then-m : goal.returns-then-m
unfolding leave_object when◌then◌else◌
returns-then-m c = rw (eq-eqb _ _ c.if-m.true) c.enter_chunk.ensures

pub returns : goal.returns
unfolding leave_object when◌then◌else◌
returns c = rw (ne_eqb _ _ c.if-m.false) c.in_unit.ensures
