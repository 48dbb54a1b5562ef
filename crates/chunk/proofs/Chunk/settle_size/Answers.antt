-- `settle_size` meets its contract.
use Rattle.streaming.specs.Choose.{when◌then◌else◌}
use Rattle.rules.specs.Map.{chunk_fits}
use Rattle.chunk.specs.Chunk.{settle_chunk_size}
use Rattle.chunk.proofs.Chunk.settle_size.Goals as goal

pub returns-then-size-m : goal.returns-then-size-m
unfolding settle_chunk_size chunk_fits when◌then◌else◌
returns-then-size-m c =
    rw (← c.map_end-end.ensures.0, c.if-size-m.true) (rw c.crc8-crc.ensures at c.go_on.ensures)

pub returns : goal.returns
unfolding settle_chunk_size chunk_fits when◌then◌else◌
returns c = rw (← c.map_end-end.ensures.0, c.if-size-m.false) c.fell.ensures
