-- `feed_size` meets its contract.
use borrow.Author.Tests.{eq-eqb, ne_eqb}
use Rattle.streaming.specs.Choose.{when◌then◌else◌}
use Rattle.chunk.specs.Chunk.{feed_chunk_size}
use Rattle.chunk.proofs.Chunk.feed_size.Goals as goal

pub returns-then-done-eq2 : goal.returns-then-done-eq2
unfolding feed_chunk_size when◌then◌else◌
returns-then-done-eq2 c =
    simp (eq-eqb _ _ c.if-done-eq2.true)
    (rw (c.number_in.ensures, c.copy_in.ensures) at c.settle_size.ensures)

pub returns : goal.returns
unfolding feed_chunk_size when◌then◌else◌
returns c = rw (ne_eqb _ _ c.if-done-eq2.false) (rw c.copy_in.ensures at c.go_on.ensures)
