-- The bit reader: where it stands, and where it stands behind some bits.
use Rattle.std.specs.Prelude.{ℕ, List}
use Rattle.std.specs.Borrow.{Bor}
use Rattle.records.specs.Bits.{further}
use Rattle.records.specs.declared.BitReader.{BitReader}

abbrev pub reader_at : Bor (List ℕ) → (at : ℕ) → BitReader
reader_at bytes at = record { bytes = bytes; at = at }

abbrev pub skipped : BitReader → (n : ℕ) → BitReader
skipped reader n = reader_at reader.bytes (further reader.at n)
