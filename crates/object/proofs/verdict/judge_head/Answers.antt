-- `judge_head` meets its contract.
use borrow.Author.Tests.{eq-eqb, ne_eqb}
use Rattle.streaming.specs.Choose.{when◌then◌else◌}
use Rattle.rules.specs.Object.{named, object_record}
use Rattle.records.proofs.Answer.{nothing_is, opening_is}
use Rattle.object.proofs.verdict.judge_head.Goals as goal

pub returns-in_default : goal.returns-in_default
unfolding named
returns-in_default c = λ o e. rw (nothing_is o e c.in_default.is)

pub returns-then-o-handle : goal.returns-then-o-handle
unfolding named when◌then◌else◌
returns-then-o-handle c = λ o e. rw (opening_is o e c.in-Some.is, ne_eqb _ _ c.if-o-handle.true)

pub returns : goal.returns
unfolding named object_record when◌then◌else◌
returns c = λ o e. rw (opening_is o e c.in-Some.is, eq-eqb _ _ c.if-o-handle.false)
