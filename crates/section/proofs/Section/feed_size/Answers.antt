-- `feed_size` meets its contract: the four bytes of the field make the size.
use mathlib.Core.Path.{◌≡◌}
use lib.ListN.{length}
use borrow.Author.Tests.{eq-eqb, ne_eqb}
use borrow.Author.Rules.{rules}
use Rattle.streaming.specs.Choose.{when◌then◌else◌}
use Rattle.section.specs.Section.{feed_section_size}
use Rattle.section.proofs.Fields.{four_bytes}
use Rattle.section.proofs.Section.feed_size.Goals as goal

pub returns-then-done-eq20 : goal.returns-then-done-eq20
unfolding feed_section_size when◌then◌else◌
returns-then-done-eq20 c =
    let h : length c.copy_in.new.dst ≡ 4 = search rules in
    rw (← c.crc8-crc.ensures, ← c.copy_in.ensures, eq-eqb _ _ c.if-done-eq20.true)
    (rw (c.le32-size.ensures, four_bytes) at c.settle_size.ensures)

pub returns : goal.returns
unfolding feed_section_size when◌then◌else◌
returns c =
    rw (← c.crc8-crc.ensures, ← c.copy_in.ensures, ne_eqb _ _ c.if-done-eq20.false) c.go_on.ensures
