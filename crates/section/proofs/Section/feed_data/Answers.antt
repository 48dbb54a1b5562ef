-- `feed_data` meets its contract.
use native.Mathlib.Omega.{arith}
use Rattle.section.specs.Section.{feed_section_data}
use Rattle.section.proofs.Bounds.{late_lt}
use Rattle.section.proofs.Section.feed_data.Goals as goal

pub overflow_add-done : goal.overflow_add-done
overflow_add-done c =
    omega (arith, late_lt c.args.self _ c.well_formed.0 c.requires.begun)

pub returns : goal.returns
unfolding feed_section_data
returns c =
    rw (← c.crc8-crc.ensures, ← c.part_of.ensures) (rw c.in_unit.ensures at c.stepped.ensures)
