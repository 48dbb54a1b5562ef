-- `same` meets its contract.
use mathlib.Core.Path.{◌∙◌}
use Rattle.octets.proofs.Sameness.{pointwise_same}
use Rattle.octets.proofs.same.Goals as goal

pub returns : goal.returns
returns c = c.eq.ensures ∙ pointwise_same _ _
