-- `fell` meets its contract.
use borrow.Author.Rules.{rules}
use Rattle.streaming.proofs.fell.Statement.{statement}
use Rattle.streaming.proofs.fell.Tie as tie

returns : tie.Need-returns
returns c = rw c.failing.ensures

pub fell_spec : {M : Type 1} → statement M
fell_spec =
    tie.close (tie.spec (search rules) returns)
