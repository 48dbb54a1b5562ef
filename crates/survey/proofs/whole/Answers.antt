-- `whole` meets its contract: the source's length is held against the header's.
use mathlib.Core.Path.{◌∙◌}
use borrow.Author.Tests.{lt-ltb, le-ltb}
use Rattle.streaming.specs.Choose.{when◌then◌else◌}
use Rattle.survey.specs.Survey.{length_refusal}
use Rattle.survey.proofs.whole.Goals as goal

pub returns-then-h-n : goal.returns-then-h-n
unfolding length_refusal when◌then◌else◌
returns-then-h-n c = c.refused.ensures ∙ rw (lt-ltb _ _ c.if-h-n.true)

pub returns-then-n-h : goal.returns-then-n-h
unfolding length_refusal when◌then◌else◌
returns-then-n-h c = c.refused-then-n-h.ensures ∙ rw (le-ltb _ _ c.if-h-n.false, lt-ltb _ _ c.if-n-h.true)

pub returns : goal.returns
unfolding length_refusal when◌then◌else◌
returns c = c.walk_all.ensures ∙ rw (le-ltb _ _ c.if-h-n.false, le-ltb _ _ c.if-n-h.false)
