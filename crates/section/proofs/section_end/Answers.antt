-- `section_end` meets its contract.
use Rattle.streaming.specs.Choose.{when◌then◌else◌}
use Rattle.streaming.proofs.Cases.{cases}
use Rattle.section.specs.Section.{section_end}
use Rattle.section.proofs.section_end.Goals as goal

pub returns-then-d-lt16 : goal.returns-then-d-lt16
unfolding section_end when◌then◌else◌
returns-then-d-lt16 c = search cases

pub returns-then-d-lt20 : goal.returns-then-d-lt20
unfolding section_end when◌then◌else◌
returns-then-d-lt20 c = search cases

pub returns-then-d-n : goal.returns-then-d-n
unfolding section_end when◌then◌else◌
returns-then-d-n c = search cases

pub returns-then-d-n-2 : goal.returns-then-d-n-2
unfolding section_end when◌then◌else◌
returns-then-d-n-2 c = search cases

pub returns : goal.returns
unfolding section_end when◌then◌else◌
returns c = search cases
