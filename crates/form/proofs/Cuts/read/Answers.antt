-- `Cuts::read` meets its contract.
use Rattle.std.proofs.Common.{◌≡◌, refl, arith}
use Rattle.std.proofs.lemmas.Bool.{false_from_ne_true}
use Rattle.form.specs.Form.{none_zero, first_cuts}
use Rattle.form.proofs.Zeros.{each-some, next_some}
use Rattle.form.proofs.Room.{next_in_room, first_in_room, laid_first}
use Rattle.form.proofs.Numbers.{cut_is}
use Rattle.form.proofs.Cuts.read.Goals as goal

pub loop-i-init : goal.loop-i-init
unfolding none_zero first_cuts
loop-i-init c = (refl, refl)

pub returns-then-size-eq0 : goal.returns-then-size-eq0
returns-then-size-eq0 c =
    false_from_ne_true _
    (λ e. omega (arith, each-some c.args.s.now c.args.section.items c.args.section.count c.loop-i.i (omega arith) e, (cut_is c.args.s.now c.args.section.items c.loop-i.i _ _ c.from_le_bytes-size.ensures c.array_at.ensures)))

pub loop-i-preserved : goal.loop-i-preserved
loop-i-preserved c = (
  next_in_room _ _ c.loop-i.i _ _ c.loop-i.invariant.0 (cut_is c.args.s.now c.args.section.items c.loop-i.i _ _ c.from_le_bytes-size.ensures c.array_at.ensures) (omega arith),
  next_some _ _ c.loop-i.i _ c.loop-i.invariant.1 (cut_is c.args.s.now c.args.section.items c.loop-i.i _ _ c.from_le_bytes-size.ensures c.array_at.ensures) c.if-size-eq0.false,
)

pub invariant_of-result : goal.invariant_of-result
invariant_of-result c =
    let e : c.loop-i.i ≡ c.args.section.count = omega arith in
    laid_first c.args.s.now c.args.section.items c.args.section.count _ (rw e at c.loop-i.invariant.0) (rw e at c.loop-i.invariant.1) (omega arith)

pub returns : goal.returns
returns c =
    let e : c.loop-i.i ≡ c.args.section.count = omega arith in
    (rw e at c.loop-i.invariant.1, first_in_room c.args.s.now c.args.section.items c.args.section.count _ (rw e at c.loop-i.invariant.0))
