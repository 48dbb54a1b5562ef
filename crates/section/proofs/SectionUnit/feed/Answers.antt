-- `feed` meets its contract: it makes the definition's tests, and a piece that fits the demand ends within the field.
use Rattle.streaming.proofs.Cases.{cases}
use Rattle.streaming.specs.Choose.{when◌then◌else◌}
use Rattle.section.specs.Section.{feed_section}
use Rattle.section.proofs.Demand.{in_start, in_size, in_data, in_crc, in_end}
use Rattle.section.proofs.SectionUnit.feed.Goals as goal

pub feed_start-requires : goal.feed_start-requires
feed_start-requires c =
    in_start _ c.args.self.fit _ c.requires c.if-d-lt16.true

pub returns-then-d-lt16 : goal.returns-then-d-lt16
unfolding feed_section when◌then◌else◌
returns-then-d-lt16 c = search cases

pub feed_size-requires-clause-fits : goal.feed_size-requires-clause-fits
feed_size-requires-clause-fits c =
    in_size _ c.args.self.fit _ c.requires c.if-d-lt16.false c.if-d-lt20.true

pub returns-then-d-lt20 : goal.returns-then-d-lt20
unfolding feed_section when◌then◌else◌
returns-then-d-lt20 c = search cases

pub feed_data-requires-clause-fits : goal.feed_data-requires-clause-fits
feed_data-requires-clause-fits c =
    in_data _ c.args.self.fit _ c.requires c.if-d-lt16.false c.if-d-lt20.false c.if-d-n.true

pub returns-then-d-n : goal.returns-then-d-n
unfolding feed_section when◌then◌else◌
returns-then-d-n c = search cases

pub feed_crc-requires-clause-fits : goal.feed_crc-requires-clause-fits
feed_crc-requires-clause-fits c =
    in_crc _ c.args.self.fit _ c.requires c.if-d-lt16.false c.if-d-lt20.false c.if-d-n.false c.if-d-n-2.true

pub returns-then-d-n-2 : goal.returns-then-d-n-2
unfolding feed_section when◌then◌else◌
returns-then-d-n-2 c = search cases

pub feed_end-requires-clause-fits : goal.feed_end-requires-clause-fits
feed_end-requires-clause-fits c =
    in_end _ c.args.self.fit _ c.requires c.if-d-lt16.false c.if-d-lt20.false c.if-d-n.false c.if-d-n-2.false

pub returns : goal.returns
unfolding feed_section when◌then◌else◌
returns c = search cases
