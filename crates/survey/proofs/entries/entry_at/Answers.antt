-- `entry_at` meets its contract: what lies behind the source's end is not there.
use native.Mathlib.Omega.{arith}
use Rattle.rules.specs.Entry.{with_handle, groups_of}
use Rattle.survey.proofs.Places.{part-behind, part_cut}
use Rattle.survey.proofs.entries.entry_at.Goals as goal

pub returns-then-stop-at : goal.returns-then-stop-at
unfolding with_handle groups_of
returns-then-stop-at c = rw (part-behind c.args.src.now c.args.at c.args.end (omega (arith, c.min-stop.ensures)))

pub returns : goal.returns
returns c =
    rw (part_cut c.args.src.now c.args.at c.args.end c.min-stop.result c.min-stop.ensures) c.entry_in.ensures
