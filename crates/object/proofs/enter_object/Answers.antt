-- `enter_object` meets its contract.
use Rattle.streaming.specs.Choose.{when◌then◌else◌}
use Rattle.object.specs.Object.{enter_object}
use Rattle.object.proofs.enter_object.Goals as goal

pub returns-then-may_start : goal.returns-then-may_start
unfolding enter_object when◌then◌else◌
returns-then-may_start c =
    rw (← c.may_start.ensures, c.if-may_start.true)
    (rw (c.with_object.ensures, c.in_unit-t.ensures) at c.stepped.ensures)

pub returns : goal.returns
unfolding enter_object when◌then◌else◌
returns c = rw (← c.may_start.ensures, c.if-may_start.false) c.fell.ensures
