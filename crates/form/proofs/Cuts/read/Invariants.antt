-- `Cuts::read` meets its contract: so far the cuts are taken, with 0 behind them, and none of them is 0.
use Rattle.std.proofs.Common.{◌≡◌, true}
use Rattle.form.specs.Cutting.{in_room}
use Rattle.form.specs.Form.{none_zero, first_cuts}
use Rattle.form.proofs.Cuts.read.Given as goal

abbrev pub invariant-loop-i : goal.invariant-loop-i
invariant-loop-i l = (l.sizes ≡ in_room (first_cuts l.s l.section.items l.i)) × (none_zero l.s l.section.items l.i ≡ true)
