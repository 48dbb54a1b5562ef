-- `sum` meets its contract.
use Prim.Native.Nat.{ℕ, suc, ◌+◌, ◌-◌}
use mathlib.Core.Path.{◌≡◌, refl, sym, ap, ◌∙◌}
use native.Mathlib.Omega.{arith}
use mathlib.Core.List.{List}
use native.Mathlib.Nat.{zero-add, add-zero, add_assoc}
use Rattle.streaming.specs.declared.FlatWalker.{FlatWalker}
use Rattle.streaming.specs.declared.Fed.{Fed}
use Rattle.walk_speed.specs.Sums.{size_of, turn_of, sum_of}
use Rattle.walk_speed.proofs.sum.Goals as goal

module _ (src : List ℕ) (cut : ℕ) (s : FlatWalker) where
  goes_on : (left next size total whole : ℕ) (fed : Fed) → left ≡ suc next
      → total + sum_of left s src cut ≡ whole → fed ≡ turn_of s src cut → size ≡ size_of fed.answer
      → total + size + sum_of next fed.state src cut ≡ whole
  unfolding sum_of
  goes_on left next size total whole fed l h f z =
      add_assoc total size _ ∙ ap (λ (n : ℕ). total + n) (rw (z, f) refl) ∙ ap (λ (n : ℕ). total + sum_of n s src cut) (sym l) ∙ h

  ends : (left total whole : ℕ) → left ≡ 0 → total + sum_of left s src cut ≡ whole → total ≡ whole
  unfolding sum_of
  ends left total whole l h = sym (add-zero total) ∙ ap (λ (n : ℕ). total + sum_of n s src cut) (sym l) ∙ h

pub loop-init : goal.loop-init
loop-init c =
    let e : c.args.turns - 0 ≡ c.args.turns = omega arith in
    (zero-add _ ∙ ap (λ (n : ℕ). sum_of n c.args.begun c.args.source.now c.args.cut) e, omega arith)

pub overflow_add-total : goal.overflow_add-total
overflow_add-total c =
    omega (arith, c.loop.invariant.1, c.size_of-total.ensures.1, c.ranges.turns)

pub loop-preserved : goal.loop-preserved
loop-preserved c =
    let e : c.args.turns - c.loop.counter ≡ suc (c.args.turns - (c.loop.counter + 1)) = omega (arith, c.loop-test.true) in (
      goes_on c.args.source.now c.args.cut c.loop.s _ _ _ _ _ _ e c.loop.invariant.0 c.turn-fed.ensures c.size_of-total.ensures.0,
      omega (arith, c.loop.invariant.1, c.size_of-total.ensures.1),
    )

pub returns : goal.returns
returns c =
    let e : c.args.turns - c.loop.counter ≡ 0 = omega (arith, c.loop-test.false) in
    ends c.args.source.now c.args.cut c.loop.s _ _ _ e c.loop.invariant.0
