use Rattle.std.proofs.Common.{arith}
use Rattle.crc.proofs.Laws.{one_byte}
use Rattle.crc.proofs.one.Goals as goal

pub returns : goal.returns
returns c = one_byte c.args.row.now _ c.args.crc c.args.b c.requires (omega arith) (omega arith) c.to_le_bytes.ensures c.from.ensures c.from-2.ensures
