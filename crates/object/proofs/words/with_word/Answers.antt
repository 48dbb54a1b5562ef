-- `with_word` meets its contract.
use Prim.Native.Nat.{◌*◌}
use mathlib.Core.Path.{ap}
use native.Mathlib.Omega.{arith}
use lib.Bits.{bit_or, and_mask}
use lib.Pow.{shl_exact}
use Rattle.object.proofs.words.with_word.Goals as goal

pub returns : goal.returns
returns c = rw (and_mask c.args.word 15) (ap (bit_or c.args.size) (shl_exact 15 (15 * c.args.words) 32 (omega arith) (omega arith)))
