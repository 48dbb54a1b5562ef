-- `settle_location` meets its contract: the object is entered at the moved location.
use Rattle.entry.specs.Entry.{settle_location}
use Rattle.entry.proofs.Moves.{told_some, told_none}
use Rattle.entry.proofs.Entry.settle_location.Goals as goal

pub returns-in_default : goal.returns-in_default
unfolding settle_location
returns-in_default c = rw (told_none _ (rw c.is_back.ensures at c.in_default.ensures)) c.refused.ensures

pub returns : goal.returns
unfolding settle_location
returns c = rw (told_some _ _ (rw c.is_back.ensures at c.in-Some.ensures)) c.enter_object.ensures
