-- `fit_object` meets its contract.
use mathlib.Core.Path.{sym, ◌∙◌}
use Rattle.streaming.proofs.Choose.{telling}
use Rattle.object.specs.Fit.{fit_object}
use Rattle.object.proofs.Fitness.{consistent_shows_words, fit_object_shows}
use Rattle.object.proofs.fit.fit_object.Goals as goal

pub size_in_words-requires : goal.size_in_words-requires
size_in_words-requires c = consistent_shows_words c.args.s (sym c.object_consistent.ensures ∙ c.if-object_consistent.true)

pub returns-then-object_consistent : goal.returns-then-object_consistent
unfolding fit_object
returns-then-object_consistent c =
    telling _ _
    (rw (← c.object_consistent.ensures, c.if-object_consistent.true) c.size_in_words.ensures)
    (fit_object_shows c.args.s)

pub returns-else-object_consistent : goal.returns-else-object_consistent
unfolding fit_object
returns-else-object_consistent c =
    telling _ _ (rw (← c.object_consistent.ensures, c.if-object_consistent.false)) (fit_object_shows c.args.s)
