-- `is_r2000` meets its contract.
use mathlib.Core.Path.{◌∙◌}
use Rattle.octets.proofs.Sameness.{pointwise_same}
use Rattle.rules.specs.Header.{is_r2000}
use Rattle.header.proofs.is_r2000.Goals as goal

pub returns : goal.returns
unfolding is_r2000
returns c = c.eq.ensures ∙ pointwise_same _ _
