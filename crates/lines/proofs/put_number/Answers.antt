-- `put_number` meets its contract.
use Rattle.std.proofs.Common.{◌≡◌, ◌+◌, ◌∙◌, ◌∷◌, [], length, take, arith, ap, sym, add-one, append_assoc}
use Rattle.std.proofs.lemmas.Slice.{take-put_mid}
use lib.ListN.{set, length-set}
use lib.Seq.{take-suc-set}
use Rattle.lines.specs.Line.{decimal_of}
use Rattle.lines.proofs.Laws.{text_of}
use Rattle.lines.proofs.put_number.Goals as goal

pub returns-clause-text : goal.returns-clause-text
returns-clause-text c =
    let text : c.copy_from_slice.new.self ≡ decimal_of c.args.n = c.copy_from_slice.ensures.after ∙ c.decimal-k.ensures.digits ∙ text_of c.args.n c.decimal-k.result c.decimal-k.ensures.len in
    let long : c.decimal-k.result ≡ length c.copy_from_slice.new.self = c.decimal-k.ensures.in_bounds.1 ∙ ap length (sym c.copy_from_slice.ensures.after) in
    rw (
      take-put_mid (c.args.at + 1) _ (set c.args.out.now c.args.at 32) c.copy_from_slice.new.self (c.args.at + 1 + c.decimal-k.result) (omega (arith, long)) (simp length-set (omega (arith, c.requires))),
      text,
      add-one,
      take-suc-set c.args.out.now c.args.at 32 (omega (arith, c.requires)),
    ) (append_assoc (take c.args.at c.args.out.now) (32 ∷ []) (decimal_of c.args.n))
