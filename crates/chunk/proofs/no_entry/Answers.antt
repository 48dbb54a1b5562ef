-- `no_entry` meets its contract: of the fields that `==` compares, the chunk's place equals itself.
use mathlib.Core.Bool.{and_assoc}
use borrow.Author.Tests.{eq-eqb}
use mathlib.Core.Path.{refl}
use Rattle.chunk.specs.Fit.{no_entry}
use Rattle.chunk.proofs.no_entry.Goals as goal

pub returns : goal.returns
unfolding no_entry
returns c = rw c.eq.ensures (rw c.at_chunk.ensures (simp (eq-eqb c.args.m.chunk _ refl, and_assoc)))
