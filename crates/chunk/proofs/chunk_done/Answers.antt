-- `chunk_done` meets its contract.
use Rattle.streaming.specs.Choose.{when◌then◌else◌}
use Rattle.streaming.proofs.Cases.{cases}
use Rattle.chunk.specs.Fit.{chunk_done}
use Rattle.chunk.proofs.chunk_done.Goals as goal

pub returns-then-done-lt2 : goal.returns-then-done-lt2
unfolding chunk_done when◌then◌else◌
returns-then-done-lt2 c = search cases

pub returns : goal.returns
unfolding chunk_done when◌then◌else◌
returns c = search cases
