-- `object_at` meets its contract.
use Prim.Native.Nat.{ℕ, ◌+◌, ◌-◌, ◌<◌}
use mathlib.Core.Path.{◌≡◌, sym, ap, ◌∙◌}
use native.Mathlib.Omega.{arith}
use Rattle.account.specs.Account.{demand}
use Rattle.rules.specs.PlainList.{stop}
use Rattle.rules.proofs.Object.{start-inside}
use Rattle.survey.proofs.AtLocation.{no_start, one_word, stalls, endless, two_words_lem}
use Rattle.survey.proofs.source.Source.object_at.Goals as goal

pub returns-then-not-may_start : goal.returns-then-not-may_start
returns-then-not-may_start c = λ rest. no_start c.args.self.now.header c.args.self.now.bytes.now c.args.to.handle c.args.to.location rest (sym c.may_start.ensures ∙ c.if-not-may_start.true) ∙ ap stop (sym c.broken.ensures)

pub le16_at-first-requires : goal.le16_at-first-requires
le16_at-first-requires c = omega (arith, start-inside c.args.self.now.header c.args.to.location (sym c.may_start.ensures ∙ c.if-not-may_start.false), c.args.self.now.whole.whole)

pub sized_at-requires : goal.sized_at-requires
sized_at-requires c = omega (arith, start-inside c.args.self.now.header c.args.to.location (sym c.may_start.ensures ∙ c.if-not-may_start.false), c.args.self.now.whole.whole)

pub overflow_sub-left : goal.overflow_sub-left
overflow_sub-left c = omega (arith, start-inside c.args.self.now.header c.args.to.location (sym c.may_start.ensures ∙ c.if-not-may_start.false))

pub returns-then-first-lt32768 : goal.returns-then-first-lt32768
returns-then-first-lt32768 c =
    λ rest.
    one_word c.args.self.now.header c.args.self.now.bytes.now c.args.to.handle c.args.to.location rest (sym c.may_start.ensures ∙ c.if-not-may_start.false) _ c.le16_at-first.ensures c.if-first-lt32768.true ∙ c.sized_at.ensures rest

pub returns-then-left-lt4 : goal.returns-then-left-lt4
returns-then-left-lt4 c =
    let h = c.args.self.now.header in
    let starts = sym c.may_start.ensures ∙ c.if-not-may_start.false in
    let far : h.length < c.args.to.location + 4 = omega (arith, c.if-left-lt4.true) in
    let lacks : c.args.to.location + 4 - h.length ≡ 4 - (h.length - c.args.to.location) = omega (arith, start-inside h c.args.to.location starts) in
    λ rest.
    stalls h c.args.self.now.bytes.now c.args.to.handle c.args.to.location rest starts _ c.le16_at-first.ensures c.if-first-lt32768.false far
    ∙ ap (λ (n : ℕ). stop (demand h.length n)) lacks

pub returns-then-second-ge32768 : goal.returns-then-second-ge32768
returns-then-second-ge32768 c =
    λ rest. endless c.args.self.now.header c.args.self.now.bytes.now c.args.to.handle c.args.to.location rest (sym c.may_start.ensures ∙ c.if-not-may_start.false) _ c.le16_at-first.ensures c.if-first-lt32768.false (omega (arith, c.if-left-lt4.false)) c.args.self.now.whole.whole
    _ c.le16_at-second.ensures c.if-second-ge32768.true ∙ ap stop (sym c.broken-then-second-ge32768.ensures)

pub returns : goal.returns
returns c =
    λ rest.
    two_words_lem c.args.self.now.header c.args.self.now.bytes.now c.args.to.handle c.args.to.location rest (sym c.may_start.ensures ∙ c.if-not-may_start.false) _ c.le16_at-first.ensures c.if-first-lt32768.false (omega (arith, c.if-left-lt4.false)) c.args.self.now.whole.whole
    _ c.le16_at-second.ensures c.if-second-ge32768.false ∙ c.sized_at-2.ensures rest
