-- `cases` meets its contract: each case is taken off the list.
use lib.ListN.{length}
use Rattle.drive_cases.proofs.cases.Given as goal

abbrev pub decreases-loop-n : goal.decreases-loop-n
decreases-loop-n g l = length l.rest
