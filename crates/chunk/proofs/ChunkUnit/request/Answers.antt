-- `request` meets its contract.
use native.Mathlib.Omega.{arith}
use Rattle.streaming.specs.Choose.{when◌then◌else◌}
use Rattle.streaming.proofs.Cases.{cases}
use Rattle.chunk.proofs.Bounds.{chunk_below}
use Rattle.chunk.specs.Chunk.{request_chunk, chunk_end}
use Rattle.chunk.proofs.ChunkUnit.request.Goals as goal

pub overflow_add-offset : goal.overflow_add-offset
overflow_add-offset c =
    omega (arith, chunk_below c.args.self _ c.well_formed.0)

pub returns-then-d-lt2 : goal.returns-then-d-lt2
unfolding request_chunk chunk_end when◌then◌else◌
returns-then-d-lt2 c = search cases

pub returns-then-d-s : goal.returns-then-d-s
unfolding request_chunk chunk_end when◌then◌else◌
returns-then-d-s c = search cases

pub returns : goal.returns
unfolding request_chunk chunk_end when◌then◌else◌
returns c = search cases
