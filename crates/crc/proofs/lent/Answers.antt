use Rattle.crc.specs.Crc.{crc_byte, steps, step, polynomial_if}
use Rattle.crc.specs.Rows.{row_of}
use Rattle.crc.proofs.Rule.{right_table_lem}
use Rattle.crc.proofs.lent.Goals as goal

pub returns : goal.returns
unfolding row_of crc_byte steps step polynomial_if
returns c = right_table_lem _ tt
