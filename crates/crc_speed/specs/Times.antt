-- The checksum over the same bytes many times, each from the result of the last.
use Rattle.std.specs.Prelude.{ℕ, zero, suc, List}
use Rattle.crc.specs.Crc.{crc_of}

unfoldable pub crc_times : ℕ → ℕ → List ℕ → ℕ
crc_times zero seed bytes = seed
crc_times (suc n) seed bytes = crc_times n (crc_of seed bytes) bytes
