-- `fit_entry` meets its contract.
use Rattle.streaming.proofs.Choose.{telling}
use Rattle.entry.specs.Fit.{fit_entry}
use Rattle.entry.proofs.Fitness.{fit_entry_shows}
use Rattle.entry.proofs.fit_entry.Goals as goal

pub returns : goal.returns
unfolding fit_entry
returns c = telling _ _ c.at_byte.ensures (fit_entry_shows c.args.s)
