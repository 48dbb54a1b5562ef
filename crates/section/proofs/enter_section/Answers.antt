-- `enter_section` meets its contract.
use borrow.Author.Tests.{le-leb, lt-leb}
use Rattle.streaming.specs.Choose.{when◌then◌else◌}
use Rattle.section.specs.Section.{enter_section}
use Rattle.section.proofs.enter_section.Goals as goal

pub returns-then-l-ge-FRAME : goal.returns-then-l-ge-FRAME
unfolding enter_section when◌then◌else◌
returns-then-l-ge-FRAME c =
    rw (← c.part_number-number.ensures.0, ← c.locator-l.ensures, le-leb _ _ c.if-l-ge-FRAME.true) c.in_unit-t.ensures

pub returns : goal.returns
unfolding enter_section when◌then◌else◌
returns c =
    rw (← c.part_number-number.ensures.0, ← c.locator-l.ensures, lt-leb _ _ c.if-l-ge-FRAME.false)
    (rw c.in_unit-t.ensures at c.failing.ensures)
