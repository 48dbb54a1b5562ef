use Rattle.std.proofs.Common.{◌≡◌}
use Rattle.rules.specs.Prologue.{bits_at}
use Rattle.records.proofs.take_at.Given as goal

abbrev pub invariant-loop-i : goal.invariant-loop-i
invariant-loop-i l = l.value ≡ bits_at l.bytes l.at l.i
