-- `feed_crc` meets its contract.
use borrow.Author.Tests.{eq-eqb, ne_eqb}
use Rattle.streaming.specs.Choose.{when◌then◌else◌}
use Rattle.chunk.specs.Chunk.{feed_chunk_crc}
use Rattle.chunk.proofs.Chunk.feed_crc.Goals as goal

pub returns-then-done-s : goal.returns-then-done-s
unfolding feed_chunk_crc when◌then◌else◌
returns-then-done-s c =
    simp (eq-eqb _ _ c.if-done-s.true)
    (rw (c.number_in.ensures, c.copy_in.ensures) at c.settle_crc.ensures)

pub returns : goal.returns
unfolding feed_chunk_crc when◌then◌else◌
returns c = rw (ne_eqb _ _ c.if-done-s.false) (rw c.copy_in.ensures at c.go_on.ensures)
