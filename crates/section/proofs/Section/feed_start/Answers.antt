-- `feed_start` meets its contract.
use Rattle.streaming.specs.Choose.{when◌then◌else◌}
use Rattle.section.specs.Section.{feed_section_start}
use Rattle.section.proofs.Section.feed_start.Goals as goal

pub returns-then-spells : goal.returns-then-spells
unfolding feed_section_start when◌then◌else◌
returns-then-spells c =
    rw (← c.part_number-number.ensures.0, ← c.spells.ensures, c.if-spells.true) c.go_on.ensures

pub returns : goal.returns
unfolding feed_section_start when◌then◌else◌
returns c =
    rw (← c.part_number-number.ensures.0, ← c.spells.ensures, c.if-spells.false) c.fell.ensures
