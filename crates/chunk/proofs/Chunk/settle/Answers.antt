-- `settle` meets its contract.
use native.Mathlib.Omega.{arith}
use borrow.Author.Tests.{eq-eqb, ne_eqb}
use Rattle.streaming.specs.Choose.{when◌then◌else◌}
use Rattle.streaming.proofs.Cases.{cases}
use Rattle.chunk.proofs.Bounds.{chunk_below}
use Rattle.chunk.specs.Chunk.{settle_chunk}
use Rattle.chunk.proofs.Chunk.settle.Goals as goal

pub returns-then-m-end : goal.returns-then-m-end
unfolding settle_chunk when◌then◌else◌
returns-then-m-end c = rw (← c.map_end-end.ensures.0) (search cases)

pub returns-then-s-eq2 : goal.returns-then-s-eq2
unfolding settle_chunk when◌then◌else◌
returns-then-s-eq2 c =
    rw (← c.map_end-end.ensures.0)
    (simp (eq-eqb _ _ c.if-s-eq2.true, ne_eqb _ _ c.if-m-end.false) c.fell.ensures)

pub overflow_add-first : goal.overflow_add-first
overflow_add-first c =
    omega (arith, chunk_below c.args.self _ c.well_formed.0)

pub returns : goal.returns
unfolding settle_chunk when◌then◌else◌
returns c = search cases
