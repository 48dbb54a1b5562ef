-- `settle_object_crc` meets its contract.
use borrow.Author.Tests.{eq-eqb, ne_eqb}
use Rattle.streaming.specs.Choose.{when◌then◌else◌}
use Rattle.object.specs.Object.{settle_object_crc}
use Rattle.object.proofs.Object.settle_object_crc.Goals as goal

pub returns-then-stored-s : goal.returns-then-stored-s
unfolding settle_object_crc when◌then◌else◌
returns-then-stored-s c = rw (eq-eqb _ _ c.if-stored-s.true, ← c.judge.ensures) c.settle_verdict.ensures

pub returns : goal.returns
unfolding settle_object_crc when◌then◌else◌
returns c = rw (ne_eqb _ _ c.if-stored-s.false) c.fell.ensures
