use Rattle.std.proofs.Common.{arith}
use Rattle.crc.proofs.Window.{looked_up}
use Rattle.crc.proofs.group.Goals as goal

pub returns : goal.returns
returns c =
    looked_up c.args.word.now c.args.rows.now _ c.args.crc c.requires c.told-word c.fits-word (omega arith) c.to_le_bytes.ensures c.from.ensures c.from-2.ensures
    c.from-3.ensures c.from-4.ensures c.from-5.ensures c.from-6.ensures c.from-7.ensures c.from-8.ensures
