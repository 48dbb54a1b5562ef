-- `demand_end` meets its contract.
use Rattle.streaming.specs.Choose.{when◌then◌else◌}
use Rattle.streaming.proofs.Cases.{cases}
use Rattle.object.specs.Object.{object_end}
use Rattle.object.proofs.Object.demand_end.Goals as goal

pub returns-then-self-eq0 : goal.returns-then-self-eq0
unfolding object_end when◌then◌else◌
returns-then-self-eq0 c = search cases

pub returns-then-done-data_end : goal.returns-then-done-data_end
unfolding object_end when◌then◌else◌
returns-then-done-data_end c = search cases

pub returns : goal.returns
unfolding object_end when◌then◌else◌
returns c = search cases
