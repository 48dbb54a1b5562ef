-- `enter_chunk` meets its contract.
use borrow.Author.Tests.{lt-leb}
use Rattle.streaming.specs.Choose.{when◌then◌else◌}
use Rattle.streaming.proofs.Cases.{cases}
use Rattle.chunk.specs.Chunk.{enter_chunk}
use Rattle.chunk.proofs.enter_chunk.Goals as goal

pub returns-then-chunk-end : goal.returns-then-chunk-end
unfolding enter_chunk when◌then◌else◌
returns-then-chunk-end c = rw (← c.map_end-end.ensures.0) (search cases)

pub returns : goal.returns
unfolding enter_chunk when◌then◌else◌
returns c = rw (← c.map_end-end.ensures.0, lt-leb _ _ c.if-chunk-end.false) (rw c.at_chunk.ensures at c.failing.ensures)
