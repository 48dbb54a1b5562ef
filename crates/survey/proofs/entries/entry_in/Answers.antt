-- `entry_in` meets its contract.
use Prim.Native.Nat.{◌-◌, ◌+◌, ◌^◌, min, ◌≤◌}
use mathlib.Core.Path.{◌≡◌, sym, ◌∙◌}
use native.Mathlib.Omega.{arith}
use lib.ListN.{length, drop, length-drop}
use lib.Seq.{take_all}
use Rattle.std.proofs.lemmas.Result.{err_from_is_err_and}
use Rattle.rules.specs.Entry.{with_handle}
use Rattle.survey.proofs.Groups.{whole_read, unending_read}
use Rattle.survey.proofs.Moves.{handle-ends, handle_past, handle-leads}
use Rattle.survey.proofs.entries.entry_in.Goals as goal

pub returns-in_err-n : goal.returns-in_err-n
unfolding with_handle
returns-in_err-n c =
    let p = err_from_is_err_and c.from_residual.result c.from_residual.ensures.1 in
    let none = c.in_err-n.ensures.ok_part in
    let value = rw none at c.in_err-n.ensures.value in
    let at : c.in_err-n.field-0.0 ≡ c.min.result = cc value in
    let byte : c.in_err-n.field-0.0 ≡ min 10 (length c.args.bytes.now) = omega (arith, at, c.min.ensures) in
    rw (p.1, p.2, unending_read c.args.bytes.now (sym c.groups_in.ensures.read ∙ none), byte)

pub returns-then-bytes-n : goal.returns-then-bytes-n
returns-then-bytes-n c =
    let whole = whole_read c.args.bytes.now c.in_ok-n.n (sym c.groups_in.ensures.read ∙ c.in_ok-n.ensures.ok_part) in
    handle-ends _ _ _ _ c.args.bytes.now whole c.handle_delta-value.ensures.0 c.if-bytes-n.true

pub returns-in_err-handle : goal.returns-in_err-handle
returns-in_err-handle c =
    let whole = whole_read c.args.bytes.now c.in_ok-n.n (sym c.groups_in.ensures.read ∙ c.in_ok-n.ensures.ok_part) in
    let p = err_from_is_err_and c.from_residual-in_err-handle.result c.from_residual-in_err-handle.ensures.1 in
    let none = c.in_err-handle.ensures.ok_part in
    let value = rw none at c.in_err-handle.ensures.value in
    let byte : c.in_err-handle.field-0.0 ≡ c.in_ok-n.n = cc value in
    let past : 2 ^ 64 ≤ c.args.last.handle + c.handle_delta-value.result = let none-fits = rw none at c.checked_add.ensures in omega arith in
    rw (p.1, p.2, byte) (handle_past _ _ _ _ c.args.bytes.now whole c.handle_delta-value.ensures.0 past)

pub returns : goal.returns
returns c =
    let whole = whole_read c.args.bytes.now c.in_ok-n.n (sym c.groups_in.ensures.read ∙ c.in_ok-n.ensures.ok_part) in
    let sum = rw c.in_ok-handle.ensures.ok_part at c.checked_add.ensures in
    let l = handle-leads c.in_ok-n.n c.args.last.handle c.args.last.location c.handle_delta-value.result c.args.bytes.now whole c.handle_delta-value.ensures.0 (omega arith) (omega (arith, sum.0)) in
    rw (l, ← sum.1, ← take_all (length c.args.bytes.now - c.in_ok-n.n) (drop c.in_ok-n.n c.args.bytes.now) (simp length-drop (omega arith))) c.location_in.ensures
