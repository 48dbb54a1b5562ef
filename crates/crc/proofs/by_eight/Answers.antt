use Rattle.std.proofs.Common.{List, ℕ, ◌+◌, ◌*◌, [], ap, ◌∙◌, drop, get_or, arith}
use Rattle.crc.specs.Crc.{crc_of}
use Rattle.crc.proofs.Laws.{word_next}
use Rattle.crc.proofs.by_eight.Goals as goal

pub loop-word-preserved : goal.loop-word-preserved
loop-word-preserved c =
    let at = c.loop-word in
    ap (λ (x : ℕ). crc_of x (drop ((at.word-index + 1) * 8) c.args.«data».now)) (c.group-crc.ensures ∙ ap (λ (words : List (List ℕ)). crc_of at.crc (get_or words at.word-index [])) c.as_chunks.ensures.front)
    ∙ word_next c.args.«data».now at.crc _ at.word-index (omega (arith, c.as_chunks.ensures.front_len)) ∙ at.invariant
