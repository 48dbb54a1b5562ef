-- `feed_end` meets its contract.
use native.Mathlib.Omega.{arith}
use borrow.Author.Tests.{eq-eqb, ne_eqb}
use Rattle.streaming.specs.Choose.{when◌then◌else◌}
use Rattle.section.specs.Section.{feed_section_end}
use Rattle.section.proofs.Bounds.{late_lt}
use Rattle.section.proofs.Section.feed_end.Goals as goal

pub returns-then-not-spells : goal.returns-then-not-spells
unfolding feed_section_end when◌then◌else◌
returns-then-not-spells c =
    rw (← c.part_number-number.ensures.0, ← c.spells.ensures, c.if-not-spells.true)
    c.fell.ensures

pub overflow_add-done : goal.overflow_add-done
overflow_add-done c =
    omega (arith, late_lt c.args.self _ c.well_formed.0 (omega arith))

pub returns-then-done-s : goal.returns-then-done-s
unfolding feed_section_end when◌then◌else◌
returns-then-done-s c =
    rw (← c.part_number-number.ensures.0, ← c.spells.ensures, c.if-not-spells.false)
    (rw (eq-eqb _ _ c.if-done-s.true) c.settle.ensures)

pub returns : goal.returns
unfolding feed_section_end when◌then◌else◌
returns c =
    rw (← c.part_number-number.ensures.0, ← c.spells.ensures, c.if-not-spells.false)
    (rw (ne_eqb _ _ c.if-done-s.false) c.go_on.ensures)
