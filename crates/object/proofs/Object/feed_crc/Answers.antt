-- `feed_crc` meets its contract.
use borrow.Author.Tests.{eq-eqb, ne_eqb}
use Rattle.streaming.specs.Choose.{when◌then◌else◌}
use Rattle.object.specs.Object.{feed_object_crc}
use Rattle.object.proofs.Object.feed_crc.Goals as goal

pub returns-then-done-data_end : goal.returns-then-done-data_end
unfolding feed_object_crc when◌then◌else◌
returns-then-done-data_end c =
    rw (← c.copy_in.ensures, ← c.word_in.ensures)
    (simp (eq-eqb _ _ c.if-done-data_end.true) c.settle_object_crc.ensures)

pub returns : goal.returns
unfolding feed_object_crc when◌then◌else◌
returns c = rw (← c.copy_in.ensures, ne_eqb _ _ c.if-done-data_end.false) c.go_on.ensures
