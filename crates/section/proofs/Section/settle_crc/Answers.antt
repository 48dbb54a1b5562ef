-- `settle_crc` meets its contract: a fit section ends below 2^32.
use native.Mathlib.Omega.{arith}
use borrow.Author.Tests.{eq-eqb, ne_eqb}
use Rattle.streaming.specs.Choose.{when◌then◌else◌}
use Rattle.section.specs.Section.{settle_section_crc}
use Rattle.section.proofs.Bounds.{late_lt}
use Rattle.section.proofs.Section.settle_crc.Goals as goal

pub overflow_add-s : goal.overflow_add-s
overflow_add-s c =
    omega (arith, late_lt c.args.self _ c.well_formed.0 c.requires)

pub returns-then-stored-s : goal.returns-then-stored-s
unfolding settle_section_crc when◌then◌else◌
returns-then-stored-s c = rw (eq-eqb _ _ c.if-stored-s.true) c.go_on.ensures

pub returns : goal.returns
unfolding settle_section_crc when◌then◌else◌
returns c = rw (ne_eqb _ _ c.if-stored-s.false, ← c.part_number.ensures.0) c.fell.ensures
