-- `groups_in` meets its contract.
use Prim.Native.Nat.{suc}
use mathlib.Core.Path.{sym, ap, ◌∙◌}
use native.Mathlib.Omega.{arith}
use native.Mathlib.Numerals.{add-one}
use lib.ListN.{take, length-take}
use Rattle.std.specs.Prelude.{option_map}
use Rattle.std.proofs.lemmas.List.Quantifiers.{position-Some}
use Rattle.survey.proofs.Groups.{position_groups, is_last}
use Rattle.survey.proofs.entries.groups_in.Goals as goal

pub returns-in_err-last : goal.returns-in_err-last
returns-in_err-last c =
    record {
      read = c.from_residual.ensures ∙ sym (position_groups (take 9 c.args.bytes.now) ∙ ap (option_map suc) (sym c.last_group.ensures ∙ c.in_err-last.was));
      inside = rw c.from_residual.ensures tt;
    }

pub overflow_add-result : goal.overflow_add-result
overflow_add-result c =
    let found = position-Some is_last (take 9 c.args.bytes.now) c.in_ok-last.last 0 (sym c.last_group.ensures ∙ c.in_ok-last.was) in
    omega (arith, found.0, length-take 9 c.args.bytes.now)

pub returns : goal.returns
returns c =
    let found = position-Some is_last (take 9 c.args.bytes.now) c.in_ok-last.last 0 (sym c.last_group.ensures ∙ c.in_ok-last.was) in
    record {
      read = rw (add-one) (sym (position_groups (take 9 c.args.bytes.now) ∙ ap (option_map suc) (sym c.last_group.ensures ∙ c.in_ok-last.was)));
      inside = (omega arith, omega (arith, found.0, length-take 9 c.args.bytes.now), omega (arith, found.0, length-take 9 c.args.bytes.now));
    }
