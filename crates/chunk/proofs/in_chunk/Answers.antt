-- `in_chunk` meets its contract.
use Prim.Native.Nat.{◌+◌, ◌<◌}
use mathlib.Core.Bool.{and-false}
use native.Mathlib.Omega.{arith}
use borrow.Author.Tests.{lt-leb}
use Rattle.streaming.proofs.Choose.{telling}
use Rattle.rules.specs.Header.{map_end}
use Rattle.chunk.specs.Fit.{in_chunk}
use Rattle.chunk.proofs.Fitness.{in_chunk_shows}
use Rattle.chunk.proofs.in_chunk.Goals as goal

pub returns-then-end-m : goal.returns-then-end-m
unfolding in_chunk
returns-then-end-m c =
    let h : map_end c.args.h < c.args.m.chunk + c.args.m.len + 2 = omega (arith, c.map_end-end.ensures.0) in
    telling _ _ (simp (lt-leb _ _ h, and-false)) (in_chunk_shows c.args.h c.args.m)

pub returns : goal.returns
unfolding in_chunk
returns c =
    telling _ _
    (rw (c.map_end-end.ensures.0, c.map_start-start.ensures.0))
    (in_chunk_shows c.args.h c.args.m)
