-- `start_answer` meets its contract.
use native.Mathlib.Omega.{arith}
use Rattle.streaming.specs.Choose.{when◌then◌else◌}
use Rattle.streaming.proofs.Cases.{cases}
use Rattle.rules.specs.Header.{start_refusal}
use Rattle.header.proofs.Starting.{first_outside, none_outside}
use Rattle.header.proofs.start_answer.Goals as goal

pub returns-then-h-gt6 : goal.returns-then-h-gt6
unfolding start_refusal when◌then◌else◌
returns-then-h-gt6 c = search cases

pub returns-then-is_outside : goal.returns-then-is_outside
returns-then-is_outside c =
    rw (first_outside c.args.h c.if-h-gt6.false c.loop-number.number c.loop-number-test.true c.loop-number.invariant (rw (← c.is_outside.ensures) c.if-is_outside.true))

pub returns : goal.returns
returns c =
    rw (none_outside c.args.h c.if-h-gt6.false (λ k b. c.loop-number.invariant k (omega arith)))
