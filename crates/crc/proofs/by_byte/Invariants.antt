use Rattle.std.proofs.Common.{◌≡◌, drop}
use Rattle.crc.specs.Crc.{crc_of}
use Rattle.crc.proofs.by_byte.Given as goal

abbrev pub invariant-loop-b : goal.invariant-loop-b
invariant-loop-b l = crc_of l.crc (drop l.b-index l.«data») ≡ crc_of l.seed l.«data»
