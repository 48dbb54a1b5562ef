-- `begin` meets its contract.
use mathlib.Core.Path.{sym, ◌∙◌}
use Rattle.driving.proofs.Driven.{walkable}
use Rattle.driving.proofs.begin.Goals as goal

pub walk-walked-requires : goal.walk-walked-requires
walk-walked-requires g c =
    walkable c.args.h c.args.source.now c.args.cuts.now c.in-Ok.begun (sym c.in-Ok.is ∙ c.start.ensures) c.requires.0 c.requires.1 c.requires.2
