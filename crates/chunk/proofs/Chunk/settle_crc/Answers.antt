-- `settle_crc` meets its contract.
use borrow.Author.Tests.{eq-eqb, ne_eqb}
use Rattle.streaming.specs.Choose.{when◌then◌else◌}
use Rattle.chunk.specs.Chunk.{settle_chunk_crc}
use Rattle.chunk.proofs.Chunk.settle_crc.Goals as goal

pub returns-then-stored-s : goal.returns-then-stored-s
unfolding settle_chunk_crc when◌then◌else◌
returns-then-stored-s c = simp (eq-eqb _ _ c.if-stored-s.true) c.settle.ensures

pub returns : goal.returns
unfolding settle_chunk_crc when◌then◌else◌
returns c = simp (ne_eqb _ _ c.if-stored-s.false) c.fell.ensures
