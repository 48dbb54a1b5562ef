-- `fit_chunk` meets its contract.
use Prim.Native.Nat.{◌+◌, ◌<◌}
use mathlib.Core.Bool.{and-false}
use native.Mathlib.Omega.{arith}
use borrow.Author.Tests.{lt-leb}
use Rattle.streaming.proofs.Choose.{telling}
use Rattle.rules.specs.Header.{map_end}
use Rattle.chunk.specs.Fit.{fit_chunk}
use Rattle.chunk.proofs.Fitness.{fit_chunk_shows}
use Rattle.chunk.proofs.fit_chunk.Goals as goal

pub returns-then-end-m : goal.returns-then-end-m
unfolding fit_chunk
returns-then-end-m c =
    let h : map_end c.args.s.header < c.args.s.map.chunk + 4 = omega (arith, c.map_end-end.ensures.0) in
    telling _ _ (simp (lt-leb _ _ h, and-false)) (fit_chunk_shows c.args.s)

pub returns : goal.returns
unfolding fit_chunk
returns c =
    telling _ _
    (rw (
      c.no_object.ensures,
      c.no_entry.ensures,
      c.chunk_done-done.ensures,
      c.map_end-end.ensures.0,
      c.map_start-start.ensures.0,
    ))
    (fit_chunk_shows c.args.s)
