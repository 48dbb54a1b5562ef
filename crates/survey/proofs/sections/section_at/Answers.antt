-- `section_at` meets its contract.
use mathlib.Core.Path.{sym, ◌∙◌}
use Rattle.rules.specs.Section.{section_size, section_computed, section_stored, section_record}
use Rattle.survey.proofs.Fields.{too_short, other_start, other_size, other_sum, other_end, section-holds}
use Rattle.survey.proofs.sections.section_at.Goals as goal

pub returns-then-total-lt38 : goal.returns-then-total-lt38
returns-then-total-lt38 c =
    λ rest.
    too_short c.args.src.now c.args.part c.args.start c.args.total _ c.from-number.ensures rest c.if-total-lt38.true

pub returns-then-not-sentinel_at : goal.returns-then-not-sentinel_at
returns-then-not-sentinel_at c =
    λ rest.
    other_start c.args.src.now c.args.part c.args.start c.args.total _ c.from-number.ensures rest c.if-total-lt38.false
    (sym c.sentinel_at.ensures ∙ c.if-not-sentinel_at.true)

pub returns-then-size-total : goal.returns-then-size-total
unfolding section_size
returns-then-size-total c =
    λ rest.
    other_size c.args.src.now c.args.part c.args.start c.args.total _ c.from-number.ensures rest c.if-total-lt38.false
    (sym c.sentinel_at.ensures ∙ c.if-not-sentinel_at.false) _ c.number_at-size.ensures.0 c.if-size-total.true

pub returns-then-stored-computed : goal.returns-then-stored-computed
unfolding section_size section_computed section_stored
returns-then-stored-computed c =
    λ rest.
    other_sum c.args.src.now c.args.part c.args.start c.args.total _ c.from-number.ensures rest c.if-total-lt38.false
    (sym c.sentinel_at.ensures ∙ c.if-not-sentinel_at.false) _ c.number_at-size.ensures.0 c.if-size-total.false
    _ _ c.sum_at-computed.ensures c.le16_at-stored.ensures c.if-stored-computed.true

pub returns-then-not-sentinel_at-2 : goal.returns-then-not-sentinel_at-2
unfolding section_size section_computed section_stored
returns-then-not-sentinel_at-2 c =
    λ rest.
    other_end c.args.src.now c.args.part c.args.start c.args.total _ c.from-number.ensures rest c.if-total-lt38.false
    (sym c.sentinel_at.ensures ∙ c.if-not-sentinel_at.false) _ c.number_at-size.ensures.0 c.if-size-total.false
    _ _ c.sum_at-computed.ensures c.le16_at-stored.ensures c.if-stored-computed.false
    (sym c.sentinel_at-2.ensures ∙ c.if-not-sentinel_at-2.true)

pub returns : goal.returns
unfolding section_size section_computed section_stored section_record
returns c =
    λ rest.
    section-holds c.args.src.now c.args.part c.args.start c.args.total _ c.from-number.ensures rest c.if-total-lt38.false
    (sym c.sentinel_at.ensures ∙ c.if-not-sentinel_at.false) _ c.number_at-size.ensures.0 c.if-size-total.false
    _ _ c.sum_at-computed.ensures c.le16_at-stored.ensures c.if-stored-computed.false
    (sym c.sentinel_at-2.ensures ∙ c.if-not-sentinel_at-2.false)
