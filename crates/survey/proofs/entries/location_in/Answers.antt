-- `location_in` meets its contract.
use Prim.Native.Nat.{◌+◌, min}
use mathlib.Core.Path.{◌≡◌, sym, ◌∙◌}
use native.Mathlib.Omega.{arith}
use Rattle.std.proofs.lemmas.Result.{err_from_is_err_and}
use lib.ListN.{length}
use Rattle.rules.specs.Entry.{with_location}
use Rattle.survey.proofs.Groups.{whole_read, unending_read}
use Rattle.survey.proofs.Moves.{location-leads, location_stays}
use Rattle.survey.proofs.entries.location_in.Goals as goal

pub returns-in_err-m : goal.returns-in_err-m
unfolding with_location
returns-in_err-m c =
    let p = err_from_is_err_and c.from_residual.result c.from_residual.ensures.1 in
    let none = c.in_err-m.ensures.ok_part in
    let value = rw none at c.in_err-m.ensures.value in
    let at : c.in_err-m.field-0.0 ≡ c.args.n + c.min.result = cc value in
    let byte : c.in_err-m.field-0.0 ≡ c.args.n + min 10 (length c.args.bytes.now) = omega (arith, at, c.min.ensures) in
    rw (p.1, p.2, unending_read c.args.bytes.now (sym c.groups_in.ensures.read ∙ none), byte)

pub returns-in_err-location : goal.returns-in_err-location
returns-in_err-location c =
    let whole = whole_read c.args.bytes.now c.in_ok-m.m (sym c.groups_in.ensures.read ∙ c.in_ok-m.ensures.ok_part) in
    let p = err_from_is_err_and c.from_residual-in_err-location.result c.from_residual-in_err-location.ensures.1 in
    let none = c.in_err-location.ensures.ok_part in
    let value = rw none at c.in_err-location.ensures.value in
    let byte : c.in_err-location.field-0.0 ≡ c.args.n + c.in_ok-m.m = cc value in
    rw (p.1, p.2, byte) (location_stays _ _ _ _ _ _ c.args.bytes.now whole c.location_delta-value.ensures c.is_back-back.ensures (sym c.moved_by.ensures ∙ none))

pub returns : goal.returns
returns c =
    let whole = whole_read c.args.bytes.now c.in_ok-m.m (sym c.groups_in.ensures.read ∙ c.in_ok-m.ensures.ok_part) in
    location-leads _ _ _ _ _ _ c.args.bytes.now whole
    c.location_delta-value.ensures c.is_back-back.ensures _
    (sym c.moved_by.ensures ∙ c.in_ok-location.ensures.ok_part)
