-- `settle_verdict` meets its contract.
use Rattle.object.specs.Object.{settle_verdict}
use Rattle.object.proofs.Object.settle_verdict.Goals as goal

pub returns-in-Ok : goal.returns-in-Ok
unfolding settle_verdict
returns-in-Ok c =
    rw c.in-Ok.is
    (rw (c.leave_object.ensures, c.in_unit-t.ensures) at c.stepped.ensures)

pub returns-in-Err : goal.returns-in-Err
unfolding settle_verdict
returns-in-Err c = rw c.in-Err.is c.fell.ensures
