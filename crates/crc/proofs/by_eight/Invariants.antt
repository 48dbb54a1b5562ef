use Rattle.std.proofs.Common.{◌≡◌, ◌*◌, drop}
use Rattle.crc.specs.Crc.{crc_of}
use Rattle.crc.proofs.by_eight.Given as goal

abbrev pub invariant-loop-word : goal.invariant-loop-word
invariant-loop-word l = crc_of l.crc (drop (l.word-index * 8) l.«data») ≡ crc_of l.seed l.«data»
