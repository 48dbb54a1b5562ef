-- `location_delta` meets its contract.
use Prim.Native.Nat.{◌-◌, ◌%◌}
use mathlib.Core.Path.{◌≡◌, ◌∙◌}
use native.Mathlib.Omega.{arith}
use lib.ListN.{length, get_or, take}
use lib.Seq.{length-take-le}
use Rattle.survey.proofs.Groups.{folded_groups, magnitude_groups, nine_room}
use Rattle.survey.proofs.entries.location_delta.Goals as goal

pub returns : goal.returns
returns c =
    let n = length c.args.groups.now - 1 in
    let last = get_or c.args.groups.now n 0 % 0x40 in
    let l : length (take n c.args.groups.now) ≡ n = length-take-le n c.args.groups.now (omega arith) in
    let room = nine_room last (take n c.args.groups.now) 8 (omega (arith, c.requires.1)) (omega arith) in
    c.groups_then.ensures ∙ rw c.from.ensures (folded_groups last (take n c.args.groups.now) room ∙ magnitude_groups c.args.groups.now n (omega arith))
