-- `head_at` meets its contract.
use Prim.Native.Nat.{◌-◌, min, ◌≤◌}
use mathlib.Core.Logic.{inl, inr}
use mathlib.Core.Path.{◌≡◌, sym, ap, ◌∙◌}
use native.Mathlib.Omega.{arith}
use lib.ListN.{length, drop}
use Rattle.records.specs.Answer.{head_of}
use Rattle.oneshot.proofs.Reading.{all-behind, head_least, head_none}
use Rattle.oneshot.proofs.objects.head_at.Goals as goal

pub returns-in_err-data : goal.returns-in_err-data
returns-in_err-data c =
    let past : length c.args.src.now ≤ c.args.at = (elim c.in_err-data.ensures.lookup.0 [ inl h ↦ omega arith | inr h ↦ omega arith ]) in
    c.from_residual.ensures ∙ sym (ap head_of (head_none c.args.r2000 c.args.src.now c.args.at c.args.size past))

pub returns : goal.returns
returns c =
    let found = c.in_ok-data.ensures.lookup.0 in
    let rest : c.in_ok-data.data.now ≡ drop c.args.at c.args.src.now
    = found.2 ∙ all-behind c.args.src.now c.args.at in
    let end : c.min-end.result ≡ min c.args.size (length c.args.src.now - c.args.at) = omega (arith, c.min-end.ensures, found.3) in
    c.prologue.ensures ∙ rw (c.from.ensures, end, rest) (ap head_of (head_least c.args.r2000 c.args.src.now c.args.at c.args.size))
