-- `counted_size` meets its contract.
use mathlib.Core.Path.{◌≡◌, refl, ap, ◌∙◌}
use native.Mathlib.Omega.{arith}
use lib.ListN.{length-take, take, drop}
use Rattle.std.specs.Int.{w32, from_le_bytes}
use Rattle.octets.specs.Octets.{little_endian}
use Rattle.octets.proofs.Counted.{cut_short, counted}
use Rattle.octets.proofs.Laws.{four_bytes}
use Rattle.octets.proofs.counted_size.Goals as goal

pub returns-in_err-checked_sub-clause-size : goal.returns-in_err-checked_sub-clause-size
returns-in_err-checked_sub-clause-size c =
    c.from_residual.ensures ∙ cut_short c.args.s.now c.args.at _ refl (omega (arith, c.in_err-checked_sub.ensures))

pub returns-in_err-behind-clause-size : goal.returns-in_err-behind-clause-size
returns-in_err-behind-clause-size c =
    c.from_residual-in_err-behind.ensures
    ∙ cut_short c.args.s.now c.args.at _ refl (omega (arith, c.in_ok-checked_sub.ensures, c.in_err-behind.ensures))

pub returns-clause-size : goal.returns-clause-size
returns-clause-size c =
    let n : c.from_le_bytes-n.result ≡ little_endian (take 4 (drop c.args.at c.args.s.now)) =
    c.from_le_bytes-n.ensures ∙ ap (from_le_bytes w32) c.array_at.ensures ∙ four_bytes _ (simp length-take (omega arith)) in
    c.then_some.ensures
    ∙ counted c.args.s.now c.args.at _ n c.in_ok-behind.behind (omega (arith, c.in_ok-checked_sub.ensures, c.in_ok-behind.ensures))
