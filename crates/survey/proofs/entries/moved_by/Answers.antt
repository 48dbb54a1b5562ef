-- `moved_by` meets its contract: a sum is tested before it is used.
use native.Mathlib.Omega.{arith}
use Rattle.survey.proofs.Moves.{moves_back, moves_ahead, moves_far}
use Rattle.survey.proofs.entries.moved_by.Goals as goal

pub returns-then-back-value : goal.returns-then-back-value
returns-then-back-value c = moves_back c.args.back c.args.location c.args.value c.if-back-value.true _ c.checked_sub.ensures

pub returns-in_err-to : goal.returns-in_err-to
returns-in_err-to c = rw c.from_residual.ensures (moves_far c.args.back c.args.location c.args.value c.if-back-value.false (omega (arith, c.in_err-to.ensures)))

pub returns : goal.returns
returns c = rw (c.then_some.ensures, c.in_ok-to.ensures.1) (moves_ahead c.args.back c.args.location c.args.value c.if-back-value.false)
