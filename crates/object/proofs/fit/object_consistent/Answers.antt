-- `object_consistent` meets its contract.
use Rattle.object.specs.Fit.{object_consistent}
use Rattle.object.proofs.fit.object_consistent.Goals as goal

pub returns-then-not-in_chunk : goal.returns-then-not-in_chunk
unfolding object_consistent
returns-then-not-in_chunk c = rw (← c.in_chunk.ensures.0, c.if-not-in_chunk.true)

pub returns-then-behind_entry : goal.returns-then-behind_entry
unfolding object_consistent
returns-then-behind_entry c =
    rw (← c.in_chunk.ensures.0, c.if-not-in_chunk.false, ← c.behind_entry.ensures, c.if-behind_entry.true)
    c.object_done.ensures

pub returns-else-behind_entry : goal.returns-else-behind_entry
unfolding object_consistent
returns-else-behind_entry c =
    rw (← c.in_chunk.ensures.0, c.if-not-in_chunk.false, ← c.behind_entry.ensures, c.if-behind_entry.false)
