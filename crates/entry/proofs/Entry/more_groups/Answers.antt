-- `more_groups` meets its contract.
use Rattle.streaming.specs.Choose.{when◌then◌else◌}
use Rattle.entry.specs.Entry.{more_groups}
use Rattle.entry.proofs.Entry.more_groups.Goals as goal

pub returns-then-at_last : goal.returns-then-at_last
unfolding more_groups when◌then◌else◌
returns-then-at_last c = rw (← c.at_last.ensures, c.if-at_last.true) c.refused.ensures

pub returns : goal.returns
unfolding more_groups when◌then◌else◌
returns c = rw (← c.at_last.ensures, c.if-at_last.false) c.stepped.ensures
