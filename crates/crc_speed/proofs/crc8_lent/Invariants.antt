use Rattle.std.proofs.Common.{◌≡◌}
use Rattle.crc_speed.specs.Times.{crc_times}
use Rattle.crc_speed.proofs.crc8_lent.Given as goal

abbrev pub invariant-loop : goal.invariant-loop
invariant-loop l = l.crc ≡ crc_times l.counter l.seed l.«data»
