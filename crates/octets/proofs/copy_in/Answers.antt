-- `copy_in` meets its contract.
use Rattle.octets.proofs.Sets.{sets_mid}
use Rattle.octets.proofs.copy_in.Goals as goal

pub returns : goal.returns
returns c = sets_mid c.args.dst.now c.args.at c.args.src.now _ c.requires c.copy_from_slice.ensures.after
