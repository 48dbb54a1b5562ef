-- `is_back` meets its contract.
use native.Mathlib.Omega.{arith}
use lib.ListN.{length}
use Prim.Native.Nat.{◌-◌}
use Rattle.survey.proofs.Groups.{back_last}
use Rattle.survey.proofs.entries.is_back.Goals as goal

pub returns : goal.returns
returns c = back_last c.args.groups.now (length c.args.groups.now - 1) (omega arith)
