-- `settle_word` meets its contract.
use borrow.Author.Tests.{lt-ltb, le-ltb, eq-eqb, ne_eqb}
use Rattle.streaming.specs.Choose.{when◌then◌else◌}
use Rattle.object.specs.Object.{settle_word}
use Rattle.object.proofs.Object.settle_word.Goals as goal

pub returns-then-word-lt32768 : goal.returns-then-word-lt32768
unfolding settle_word when◌then◌else◌
returns-then-word-lt32768 c = rw (lt-ltb _ 0x8000 c.if-word-lt32768.true, ← c.with_word-size.ensures) c.settle_object_size.ensures

pub returns-then-s-eq0 : goal.returns-then-s-eq0
unfolding settle_word when◌then◌else◌
returns-then-s-eq0 c =
    rw (
      le-ltb _ 0x8000 c.if-word-lt32768.false,
      ← c.with_word-size.ensures,
      eq-eqb _ 0 c.if-s-eq0.true,
    ) (rw c.with_object-t.ensures at c.go_on.ensures)

pub returns : goal.returns
unfolding settle_word when◌then◌else◌
returns c = rw (le-ltb _ 0x8000 c.if-word-lt32768.false, ne_eqb _ 0 c.if-s-eq0.false) c.fell.ensures
