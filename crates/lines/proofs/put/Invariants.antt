-- `put` meets its contract.
use Rattle.std.proofs.Common.{◌≡◌, ◌+◌, ◌*◌, ◌≤◌, ◌++◌, take}
use Rattle.lines.specs.Line.{spaced}
use Rattle.lines.proofs.put.Given as goal

abbrev pub invariant-loop-n : goal.invariant-loop-n
invariant-loop-n l =
    (l.at ≤ 1 + 21 * l.n-index) × (take l.at l.out ≡ take 1 l.initial.out ++ spaced (take l.n-index l.n-items))
