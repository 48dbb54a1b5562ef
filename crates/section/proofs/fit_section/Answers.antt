-- `fit_section` meets its contract: each test is the definition's, and `Fitness` has what they show.
use Rattle.streaming.proofs.Choose.{telling}
use Rattle.section.specs.Fit.{fit_section}
use Rattle.section.proofs.Fitness.{fit_section_shows}
use Rattle.section.proofs.fit_section.Goals as goal

pub returns : goal.returns
unfolding fit_section
returns c =
    telling _ _
    (rw (
      ← c.section-l.ensures,
      ← c.no_object.ensures,
      ← c.no_entry.ensures,
      ← c.section_done-done.ensures,
    ))
    (fit_section_shows c.args.s)
