-- `put` meets its contract.
use Rattle.std.proofs.Common.{◌≡◌, length, take, arith, add-one, rules}
use Rattle.std.proofs.lemmas.List.{take_min}
use lib.ListN.{length-set}
use lib.Seq.{take-suc-set, take_all}
use Rattle.lines.specs.Line.{line_of}
use Rattle.lines.proofs.put.Goals as goal

pub returns-clause-text : goal.returns-clause-text
unfolding line_of
returns-clause-text c =
    let e : length c.loop-n.out ≡ length c.args.out.now = simp length-set at c.loop-n.auto.out in
    let seven : 7 ≡ length c.args.line.numbers = search rules in
    rw (
      add-one,
      take-suc-set c.loop-n.out c.loop-n.at 10 (omega arith),
      c.loop-n.invariant.1,
      take-suc-set c.args.out.now 0 c.args.line.letter (omega (arith, c.requires)),
      take_all c.loop-n.n-index (take c.min.result c.args.line.numbers) (omega arith),
      c.min.ensures,
      seven,
      take_min,
    )
