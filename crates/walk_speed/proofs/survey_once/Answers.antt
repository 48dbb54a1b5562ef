-- `survey_once` meets its contract.
use mathlib.Core.Path.{ap, ◌∙◌}
use Rattle.streaming.specs.declared.FlatHeader.{FlatHeader}
use Rattle.survey.specs.Survey.{survey_of}
use Rattle.survey.specs.declared.Walked.{Walked}
use Rattle.walk_speed.proofs.survey_once.Goals as goal

pub returns : goal.returns
returns c =
    ap (λ (w : Walked). w.count) c.survey.ensures ∙ ap (λ (h : FlatHeader). (survey_of h c.args.source.now).count) c.header-h.ensures
