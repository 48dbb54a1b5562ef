-- `is_mark` meets its contract.
use mathlib.Core.Bool.{and_assoc}
use Rattle.listing.specs.Listing.{is_mark}
use Rattle.listing.proofs.is_mark.Goals as goal

pub returns : goal.returns
unfolding is_mark
returns c = simp and_assoc c.eq.ensures
