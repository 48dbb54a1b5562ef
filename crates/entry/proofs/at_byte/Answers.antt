-- `at_byte` meets its contract: where the chunk lies in the map, the sums fit.
use Rattle.entry.specs.Fit.{at_byte}
use Rattle.entry.proofs.at_byte.Goals as goal

pub returns-then-not-in_chunk : goal.returns-then-not-in_chunk
unfolding at_byte
returns-then-not-in_chunk c = rw (← c.in_chunk.ensures.0, c.if-not-in_chunk.true)

pub returns : goal.returns
unfolding at_byte
returns c = rw (← c.in_chunk.ensures.0, c.if-not-in_chunk.false)
