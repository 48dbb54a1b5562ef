-- `section_done` meets its contract.
use Rattle.streaming.specs.Choose.{when◌then◌else◌}
use Rattle.streaming.proofs.Cases.{cases}
use Rattle.section.specs.Fit.{section_done}
use Rattle.section.proofs.section_done.Goals as goal

pub returns-then-done-lt20 : goal.returns-then-done-lt20
unfolding section_done when◌then◌else◌
returns-then-done-lt20 c = search cases

pub returns : goal.returns
unfolding section_done when◌then◌else◌
returns c = search cases
