-- `feed_word` meets its contract.
use borrow.Author.Tests.{eq-eqb, ne_eqb}
use Rattle.streaming.specs.Choose.{when◌then◌else◌}
use Rattle.object.specs.Object.{feed_word}
use Rattle.object.proofs.Object.feed_word.Goals as goal

pub returns-then-done-eq0 : goal.returns-then-done-eq0
unfolding feed_word when◌then◌else◌
returns-then-done-eq0 c =
    rw (← c.crc8-crc.ensures, ← c.copy_in.ensures, ← c.word_in.ensures)
    (simp (eq-eqb _ _ c.if-done-eq0.true) c.settle_word.ensures)

pub returns : goal.returns
unfolding feed_word when◌then◌else◌
returns c =
    rw (← c.crc8-crc.ensures, ← c.copy_in.ensures, ne_eqb _ _ c.if-done-eq0.false) c.go_on.ensures
