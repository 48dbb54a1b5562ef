-- `first_other` meets its contract.
use Prim.Native.Nat.{ℕ, ◌+◌}
use mathlib.Core.Path.{ap, ◌∙◌}
use native.Mathlib.Omega.{arith}
use lib.ListN.{length-drop, drop}
use Rattle.listing.proofs.Others.{run_marked, marked_within}
use Rattle.listing.proofs.first_other.Goals as goal

pub overflow_add-result : goal.overflow_add-result
overflow_add-result c =
    let behind = drop c.args.at c.args.list in
    omega (arith, c.marked_from.ensures, run_marked behind, marked_within behind, length-drop c.args.at c.args.list, c.well_formed)

pub returns : goal.returns
returns c = ap (λ (n : ℕ). c.args.at + n) (c.marked_from.ensures ∙ run_marked (drop c.args.at c.args.list))
