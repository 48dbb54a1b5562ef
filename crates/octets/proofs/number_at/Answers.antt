-- `number_at` meets its contract.
use Prim.Native.Nat.{ℕ, ◌+◌, ◌-◌}
use mathlib.Core.Path.{◌≡◌, ap, ◌∙◌}
use native.Mathlib.Omega.{arith}
use lib.ListN.{take, drop}
use Rattle.octets.proofs.Laws.{number_of}
use Rattle.octets.proofs.number_at.Goals as goal

pub returns : goal.returns
returns c =
    let n : c.args.at + c.args.n - c.args.at ≡ c.args.n = omega arith in
    number_of c.args.s.now c.args.at c.args.n _ c.copy_from_slice.new.self
    (c.copy_from_slice.ensures.after ∙ ap (λ (k : ℕ). take k (drop c.args.at c.args.s.now)) n)
    c.requires.0 c.requires.1 (λ i. omega (arith, c.type_inv.s i)) c.from_le_bytes.ensures
