-- `behind_vars` meets its contract.
use mathlib.Core.Path.{sym, ap, ◌∙◌}
use native.Mathlib.Omega.{arith}
use Rattle.streaming.specs.Record.{section}
use Rattle.streaming.specs.declared.Part.TheVariants.{Classes}
use Rattle.rules.specs.PlainList.{Listing, first}
use Rattle.survey.specs.Survey.{listed}
use Rattle.survey.proofs.Inside.{classes_inside}
use Rattle.survey.proofs.Listed.{listed_vars, listed_both, part_goes}
use Rattle.survey.proofs.behind_vars.Goals as goal

pub section_at-requires : goal.section_at-requires
section_at-requires c = (omega arith, rw c.locator-l.ensures (classes_inside _ _ c.args.source.now.whole))

pub returns-in-Err : goal.returns-in-Err
returns-in-Err c =
    listed_vars c.args.vars _
    ∙ ap (λ (k : Listing). listed (first (section c.args.vars) k))
    (sym (part_goes c.args.source.now.header c.args.source.now.bytes.now Classes c.locator-l.result _ _ _ c.locator-l.ensures c.section_at.ensures c.in-Err.is))

pub returns-in-Ok : goal.returns-in-Ok
returns-in-Ok c =
    listed_both c.args.vars _ _ _ c.walk_map-map.ensures
    ∙ ap (λ (k : Listing). listed (first (section c.args.vars) k))
    (sym (part_goes c.args.source.now.header c.args.source.now.bytes.now Classes c.locator-l.result _ _ _ c.locator-l.ensures c.section_at.ensures c.in-Ok.is))
