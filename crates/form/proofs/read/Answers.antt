-- `read` meets its contract: at each refusal the input lacks a part.
use Rattle.std.proofs.Common.{arith, ◌∙◌}
use Rattle.std.proofs.lemmas.Bool.{both_ways}
use Rattle.form.proofs.Reading.{says_nothing, no_magic, no_cuts, a_zero, no_source, more_behind, said}
use Rattle.form.proofs.Given.{given}
use Rattle.form.proofs.read.Goals as goal

pub returns-then-s-gt-MOST_BYTES-clause-form : goal.returns-then-s-gt-MOST_BYTES-clause-form
returns-then-s-gt-MOST_BYTES-clause-form c = says_nothing _ (λ p. omega (arith, p.few))

pub returns-in_err-locators-clause-form : goal.returns-in_err-locators-clause-form
returns-in_err-locators-clause-form c = c.from_residual.ensures ∙ says_nothing _ (λ p. both_ways _ c.in_err-locators.ensures p.locators)

pub returns-in_err-magic-clause-form : goal.returns-in_err-magic-clause-form
returns-in_err-magic-clause-form c = c.from_residual-in_err-magic.ensures ∙ no_magic _ _ c.in_ok-locators.ensures c.in_err-magic.ensures

pub returns-in_err-cuts-clause-form : goal.returns-in_err-cuts-clause-form
returns-in_err-cuts-clause-form c =
    c.from_residual-in_err-cuts.ensures ∙ no_cuts _ _ c.in_ok-locators.ensures _ c.in_ok-magic.ensures c.in_err-cuts.ensures

pub returns-in_err-sizes-clause-form : goal.returns-in_err-sizes-clause-form
returns-in_err-sizes-clause-form c =
    c.from_residual-in_err-sizes.ensures
    ∙ a_zero _ _ c.in_ok-locators.ensures _ c.in_ok-magic.ensures _ c.in_ok-cuts.ensures c.in_err-sizes.ensures

pub returns-in_err-source-clause-form : goal.returns-in_err-source-clause-form
returns-in_err-source-clause-form c =
    c.from_residual-in_err-source.ensures
    ∙ no_source _ _ c.in_ok-locators.ensures _ c.in_ok-magic.ensures _ c.in_ok-cuts.ensures c.in_err-source.ensures

pub returns-then-source-s-clause-form : goal.returns-then-source-s-clause-form
returns-then-source-s-clause-form c =
    more_behind _ _ c.in_ok-locators.ensures _ c.in_ok-magic.ensures _ c.in_ok-cuts.ensures _ c.in_ok-source.ensures (λ e. omega arith)

pub returns-clause-form : goal.returns-clause-form
returns-clause-form c =
    said _ _ c.in_ok-locators.ensures _ c.in_ok-magic.ensures _ c.in_ok-cuts.ensures _ c.in_ok-source.ensures
    _ _ _ (omega arith) c.in_ok-sizes.ensures.0 (omega arith) c.in_ok-sizes.ensures.1 c.array_at.ensures c.six_locators.ensures

pub returns-clause-given : goal.returns-clause-given
returns-clause-given c = given _ _ (returns-clause-form c)
