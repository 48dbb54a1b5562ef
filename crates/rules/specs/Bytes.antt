-- The checksum of some bytes of a drawing.
use Rattle.std.specs.Prelude.{ℕ, List}
use Rattle.crc.specs.Crc.{crc_of}

-- every checksum of a drawing starts from this seed (§2.14.1)
abbrev pub seed : ℕ
seed = 0xC0C1

abbrev pub checksum : List ℕ → ℕ
checksum bytes = crc_of seed bytes
