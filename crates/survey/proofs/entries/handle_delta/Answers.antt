-- `handle_delta` meets its contract.
use mathlib.Core.Path.{◌∙◌}
use native.Mathlib.Omega.{arith}
use Rattle.survey.proofs.Groups.{folded_groups, groups_below, handle_groups, nine_room}
use Rattle.survey.proofs.entries.handle_delta.Goals as goal

pub returns : goal.returns
returns c =
    let room = nine_room 0 c.args.groups.now 9 c.requires (omega arith) in
    let all = folded_groups 0 c.args.groups.now room in
    (c.groups_then.ensures ∙ all ∙ handle_groups c.args.groups.now, omega (arith, c.groups_then.ensures, all, groups_below 0 c.args.groups.now, room))
