-- The theorem: the walk by calls meets the rules. From its start the bare machine goes through every source as they say (Walk), and the test of fitness,
-- which it lacks, never fails in a run (Fitness).
use Rattle.account.specs.Statement.{Meets}
use Rattle.account.proofs.Walking.{walker_of, walker_meets}
use Rattle.rules.specs.Source.{Of}
use Rattle.rules.specs.Rules.{rules}
use Rattle.flat.specs.Flat.{begun_of}
use Rattle.stands.proofs.Bare.{bare}
use Rattle.stands.proofs.Walk.{walk_on}
use Rattle.stands.proofs.Fitness.{begun, flat_walker, meets_flat}

bare_meets : Meets Of rules (walker_of bare begun)
unfolding begun_of
bare_meets = walker_meets bare begun Of rules (λ h src of. walk_on h src)

pub flat_meets : Meets Of rules flat_walker
flat_meets = meets_flat bare_meets
