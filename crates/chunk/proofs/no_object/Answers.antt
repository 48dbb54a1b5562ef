-- `no_object` meets its contract.
use Rattle.octets.proofs.Sameness.{pointwise_same}
use Rattle.chunk.specs.Fit.{no_object}
use Rattle.chunk.proofs.no_object.Goals as goal

pub returns : goal.returns
unfolding no_object
returns c = rw (← pointwise_same, ← c.eq.ensures)
