use Rattle.std.proofs.Common.{arith}
use Rattle.crc.proofs.Laws.{crc_next, crc_end}
use Rattle.crc.proofs.by_byte.Goals as goal

pub loop-b-preserved : goal.loop-b-preserved
loop-b-preserved c = cc (crc_next c.args.«data».now c.loop-b.crc c.loop-b.b-index (omega arith))

pub returns : goal.returns
returns c = cc (crc_end c.args.«data».now c.loop-b.crc c.loop-b.b-index (omega arith))
