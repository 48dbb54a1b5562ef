-- `sentinel_at` meets its contract.
use mathlib.Core.Path.{◌≡◌}
use native.Mathlib.Omega.{arith}
use native.Mathlib.Nat.{add-sub_cancel_left}
use lib.ListN.{length}
use Rattle.account.specs.Statement.{part}
use Rattle.account.proofs.Parts.{length_part}
use Rattle.survey.proofs.Fields.{whole_sentinel}
use Rattle.survey.proofs.sections.sentinel_at.Goals as goal

pub returns : goal.returns
returns c =
    let n : length (part c.args.src.now c.args.at 16) ≡ 16 = length_part c.args.src.now c.args.at 16 (omega arith) in
    rw (n, whole_sentinel c.args.part c.args.side (omega arith)) at (simp add-sub_cancel_left at c.spells.ensures)
