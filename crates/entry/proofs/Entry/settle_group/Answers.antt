-- `settle_group` meets its contract.
use borrow.Author.Tests.{eq-eqb, ne_eqb}
use Rattle.streaming.specs.Choose.{when◌then◌else◌}
use Rattle.entry.specs.Entry.{settle_group}
use Rattle.entry.proofs.Entry.settle_group.Goals as goal

pub returns-then-not-is_last : goal.returns-then-not-is_last
unfolding settle_group when◌then◌else◌
returns-then-not-is_last c = rw (← c.is_last.ensures, c.if-not-is_last.true) c.more_groups.ensures

pub returns-then-self-eq0 : goal.returns-then-self-eq0
unfolding settle_group when◌then◌else◌
returns-then-self-eq0 c =
    rw (← c.is_last.ensures, c.if-not-is_last.false, eq-eqb _ _ c.if-self-eq0.true) c.settle_handle.ensures

pub returns : goal.returns
unfolding settle_group when◌then◌else◌
returns c =
    rw (← c.is_last.ensures, c.if-not-is_last.false, ne_eqb _ _ c.if-self-eq0.false) c.settle_location.ensures
