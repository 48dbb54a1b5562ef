-- `request` meets its contract.
use native.Mathlib.Omega.{arith}
use Rattle.object.specs.Object.{request_object}
use Rattle.object.proofs.Demand.{ends_ahead}
use Rattle.object.proofs.ObjectUnit.request.Goals as goal

pub overflow_sub-result : goal.overflow_sub-result
overflow_sub-result c = omega (arith, c.demand_end.ensures, ends_ahead c.args.self.walker c.args.self.fit)

pub returns : goal.returns
unfolding request_object
returns c = rw c.demand_end.ensures
