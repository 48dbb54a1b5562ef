-- `feed_crc` meets its contract: the first two bytes of the field make the checksum.
use mathlib.Core.Path.{◌≡◌}
use native.Mathlib.Omega.{arith}
use lib.ListN.{length}
use borrow.Author.Tests.{eq-eqb, ne_eqb}
use borrow.Author.Rules.{rules}
use Rattle.streaming.specs.Choose.{when◌then◌else◌}
use Rattle.section.specs.Section.{feed_section_crc}
use Rattle.section.proofs.Bounds.{late_lt}
use Rattle.section.proofs.Fields.{two_bytes}
use Rattle.section.proofs.Section.feed_crc.Goals as goal

pub overflow_add-done : goal.overflow_add-done
overflow_add-done c =
    omega (arith, late_lt c.args.self _ c.well_formed.0 (omega arith))

pub overflow_add-s-2 : goal.overflow_add-s-2
overflow_add-s-2 c =
    omega (arith, late_lt c.args.self _ c.well_formed.0 (omega arith))

pub returns-then-done-s : goal.returns-then-done-s
unfolding feed_section_crc when◌then◌else◌
returns-then-done-s c =
    let h : length c.copy_in.new.dst ≡ 4 = search rules in
    rw (← c.copy_in.ensures, eq-eqb _ _ c.if-done-s.true)
    (rw (c.le16.ensures, two_bytes) at c.settle_crc.ensures)

pub returns : goal.returns
unfolding feed_section_crc when◌then◌else◌
returns c = rw (← c.copy_in.ensures, ne_eqb _ _ c.if-done-s.false) c.go_on.ensures
