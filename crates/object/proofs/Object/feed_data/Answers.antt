-- `feed_data` meets its contract.
use Rattle.object.specs.Object.{feed_object_data}
use Rattle.object.proofs.Object.feed_data.Goals as goal

pub returns : goal.returns
unfolding feed_object_data
returns c =
    rw (← c.crc8-crc.ensures, ← c.kept-head.ensures)
    (rw (c.with_object.ensures, c.in_unit-t.ensures) at c.stepped.ensures)
