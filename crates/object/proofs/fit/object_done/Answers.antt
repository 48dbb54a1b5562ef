-- `object_done` meets its contract: an end past 2^64 lies past the source too.
use Prim.Native.Nat.{◌+◌, ◌<◌}
use mathlib.Core.Bool.{and-false}
use mathlib.Core.Path.{◌≡◌}
use native.Mathlib.Omega.{arith}
use borrow.Author.Tests.{eq-eqb, ne_eqb, lt-leb}
use Rattle.streaming.specs.Choose.{when◌then◌else◌}
use Rattle.rules.specs.Object.{may_end}
use Rattle.object.specs.Fit.{object_done}
use Rattle.object.proofs.fit.object_done.Goals as goal

pub returns-then-s-eq0 : goal.returns-then-s-eq0
unfolding object_done when◌then◌else◌
returns-then-s-eq0 c = rw (eq-eqb _ 0 c.if-s-eq0.true)

pub returns-in_default : goal.returns-in_default
unfolding object_done when◌then◌else◌ may_end
returns-in_default c =
    let s = c.args.s in
    let past : s.header.length < s.object + s.ms_len + s.size + 2 = omega (arith, c.in_default.ensures) in
    simp (ne_eqb _ 0 c.if-s-eq0.false, lt-leb _ _ past, and-false)

pub returns : goal.returns
unfolding object_done when◌then◌else◌
returns c =
    let s = c.args.s in
    let sum : s.object + (s.ms_len + s.size + 2) ≡ s.object + s.ms_len + s.size + 2 = omega arith in
    rw (ne_eqb _ 0 c.if-s-eq0.false, c.may_end.ensures, c.in-Some.ensures.1, sum)
