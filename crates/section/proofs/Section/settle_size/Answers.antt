-- `settle_size` meets its contract.
use borrow.Author.Tests.{eq-eqb, ne_eqb}
use Rattle.streaming.specs.Choose.{when◌then◌else◌}
use Rattle.section.specs.Section.{settle_section_size}
use Rattle.section.proofs.Section.settle_size.Goals as goal

pub returns-then-size-l : goal.returns-then-size-l
unfolding settle_section_size when◌then◌else◌
returns-then-size-l c = rw (← c.section-l.ensures, eq-eqb _ _ c.if-size-l.true) c.go_on.ensures

pub returns : goal.returns
unfolding settle_section_size when◌then◌else◌
returns c =
    rw (← c.section-l.ensures, ne_eqb _ _ c.if-size-l.false, ← c.part_number.ensures.0) c.fell.ensures
