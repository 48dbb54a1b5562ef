-- `feed` meets its contract.
use borrow.Author.Tests.{eq-eqb, ne_eqb, lt-ltb, le-ltb}
use Rattle.streaming.specs.Choose.{when◌then◌else◌}
use Rattle.object.specs.Object.{feed_object}
use Rattle.object.proofs.Demand.{word_room, data_room, crc_room}
use Rattle.object.proofs.ObjectUnit.feed.Goals as goal

pub feed_word-requires : goal.feed_word-requires
feed_word-requires c =
    let o = c.args.self in
    (c.if-self-eq0.true, word_room o.walker o.fit _ c.requires c.if-self-eq0.true)

pub returns-then-self-eq0 : goal.returns-then-self-eq0
unfolding feed_object when◌then◌else◌
returns-then-self-eq0 c = rw (eq-eqb _ 0 c.if-self-eq0.true) c.feed_word.ensures

pub feed_data-requires : goal.feed_data-requires
feed_data-requires c =
    let o = c.args.self in
    (o.fit.behind c.if-self-eq0.false, data_room o.walker o.fit _ c.requires c.if-self-eq0.false c.if-self.true)

pub returns-then-self : goal.returns-then-self
unfolding feed_object when◌then◌else◌
returns-then-self c = rw (ne_eqb _ 0 c.if-self-eq0.false, lt-ltb _ _ c.if-self.true) c.feed_data.ensures

pub feed_crc-requires : goal.feed_crc-requires
feed_crc-requires c =
    let o = c.args.self in
    (c.if-self.false, crc_room o.walker o.fit _ c.requires c.if-self-eq0.false c.if-self.false)

pub returns : goal.returns
unfolding feed_object when◌then◌else◌
returns c = rw (ne_eqb _ 0 c.if-self-eq0.false, le-ltb _ _ c.if-self.false) c.feed_crc.ensures
