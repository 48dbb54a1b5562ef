-- `walk_all` meets its contract.
use mathlib.Core.Path.{sym, ap, ◌∙◌}
use native.Mathlib.Omega.{arith}
use Rattle.rules.specs.PlainList.{plain_list}
use Rattle.streaming.specs.declared.Part.TheVariants.{HeaderVars}
use Rattle.survey.specs.Survey.{listed}
use Rattle.survey.proofs.Inside.{vars_inside}
use Rattle.survey.proofs.Listed.{listed_none, part_goes}
use Rattle.survey.proofs.walk_all.Goals as goal

pub section_at-requires : goal.section_at-requires
section_at-requires c = (omega arith, rw c.locator-l.ensures (vars_inside _ _ c.args.source.now.whole))

pub returns-in-Err : goal.returns-in-Err
unfolding plain_list
returns-in-Err c =
    c.refused.ensures ∙ listed_none _
    ∙ ap listed (sym (part_goes c.args.source.now.header c.args.source.now.bytes.now HeaderVars c.locator-l.result _ _ _ c.locator-l.ensures c.section_at.ensures c.in-Err.is))

pub returns-in-Ok : goal.returns-in-Ok
unfolding plain_list
returns-in-Ok c =
    c.behind_vars.ensures
    ∙ ap listed (sym (part_goes c.args.source.now.header c.args.source.now.bytes.now HeaderVars c.locator-l.result _ _ _ c.locator-l.ensures c.section_at.ensures c.in-Ok.is))
