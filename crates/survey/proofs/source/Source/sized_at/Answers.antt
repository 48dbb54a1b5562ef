-- `sized_at` meets its contract.
use Prim.Native.Nat.{◌+◌}
use mathlib.Core.Bool.{true}
use mathlib.Core.Path.{◌≡◌, sym, ap, ◌∙◌}
use native.Mathlib.Omega.{arith}
use Rattle.rules.specs.Object.{may_end}
use Rattle.rules.specs.PlainList.{stop, verdict_then}
use Rattle.rules.proofs.Object.{end_inside}
use Rattle.survey.proofs.AtLocation.{no_size, no_end, judged, verdict_goes}
use Rattle.survey.proofs.source.Source.sized_at.Goals as goal

pub returns-then-size-eq0 : goal.returns-then-size-eq0
returns-then-size-eq0 c = λ rest. no_size c.args.self.now.header c.args.self.now.bytes.now c.args.to.handle c.args.to.location c.args.field c.args.size rest c.if-size-eq0.true ∙ ap stop (sym c.broken.ensures)

pub returns-then-not-may_end : goal.returns-then-not-may_end
returns-then-not-may_end c =
    λ rest. no_end c.args.self.now.header c.args.self.now.bytes.now c.args.to.handle c.args.to.location c.args.field c.args.size rest (omega arith) (sym c.may_end.ensures ∙ c.if-not-may_end.true) ∙ ap stop (sym c.broken-then-not-may_end.ensures)

pub judge_at-requires : goal.judge_at-requires
judge_at-requires c =
    let ends : may_end c.args.self.now.header c.args.to.location (c.args.to.location + c.args.field + c.args.size + 2) ≡ true = sym c.may_end.ensures ∙ c.if-not-may_end.false in
    omega (arith, c.args.self.now.whole.whole, end_inside c.args.self.now.header c.args.to.location _ ends)

pub returns : goal.returns
unfolding verdict_then
returns c =
    let ends : may_end c.args.self.now.header c.args.to.location (c.args.to.location + c.args.field + c.args.size + 2) ≡ true = sym c.may_end.ensures ∙ c.if-not-may_end.false in
    λ rest.
    judged c.args.self.now.header c.args.self.now.bytes.now c.args.to.handle c.args.to.location c.args.field c.args.size rest (omega arith) ends _ c.judge_at.ensures ∙ verdict_goes c.judge_at.result c.map_err.result rest c.map_err.ensures.cases
