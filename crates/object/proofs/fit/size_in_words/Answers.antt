-- `size_in_words` meets its contract.
use Prim.Native.Nat.{◌*◌}
use mathlib.Core.Path.{ap, ◌∙◌}
use native.Mathlib.Nat.{one-mul}
use native.Mathlib.Omega.{arith}
use lib.Dec.{ltb}
use lib.Pow.{shl_exact}
use Rattle.object.specs.Fit.{size_in_words}
use Rattle.object.proofs.fit.size_in_words.Goals as goal

pub returns : goal.returns
unfolding size_in_words
returns c =
    ap (ltb c.args.s.size) (shl_exact {a = 1} 1 (15 * c.args.s.words) 32 (omega arith) (omega arith) ∙ one-mul _)
