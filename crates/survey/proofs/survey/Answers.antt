-- `survey` meets its contract: what Start refuses comes first.
use mathlib.Core.Path.{sym, ◌∙◌}
use Rattle.rules.specs.Header.{start_refusal}
use Rattle.survey.specs.Survey.{survey_of}
use Rattle.survey.proofs.Listed.{begun_is, refused_is}
use Rattle.survey.proofs.survey.Goals as goal

pub returns-in-Err : goal.returns-in-Err
unfolding survey_of
returns-in-Err c =
    c.refused.ensures
    ∙ rw (refused_is (start_refusal c.args.h) _ (sym c.in-Err.is ∙ c.start_answer.ensures))

pub returns-in-Ok : goal.returns-in-Ok
unfolding survey_of
returns-in-Ok c =
    c.whole.ensures
    ∙ rw (begun_is (start_refusal c.args.h) (sym c.in-Ok.is ∙ c.start_answer.ensures))
