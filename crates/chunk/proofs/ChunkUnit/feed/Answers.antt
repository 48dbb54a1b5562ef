-- `feed` meets its contract.
use Prim.Native.Nat.{◌+◌, ◌-◌, ◌≤◌}
use native.Mathlib.Omega.{arith}
use lib.ListN.{length}
use borrow.Author.Tests.{lt-ltb, le-ltb}
use Rattle.streaming.specs.Choose.{when◌then◌else◌}
use Rattle.chunk.specs.Chunk.{request_chunk, chunk_end, feed_chunk}
use Rattle.chunk.proofs.ChunkUnit.feed.Goals as goal

pub feed_size-requires : goal.feed_size-requires
unfolding request_chunk chunk_end when◌then◌else◌
feed_size-requires c =
    let asked : length c.args.piece.now ≤ 2 - c.args.self.walker.done = simp (lt-ltb _ _ c.if-s-lt2.true) at c.requires in
    omega arith

pub returns-then-s-lt2 : goal.returns-then-s-lt2
unfolding feed_chunk when◌then◌else◌
returns-then-s-lt2 c = simp (lt-ltb _ _ c.if-s-lt2.true) c.feed_size.ensures

pub feed_entries-requires : goal.feed_entries-requires
unfolding request_chunk chunk_end when◌then◌else◌
feed_entries-requires c =
    let asked : length c.args.piece.now ≤ c.args.self.walker.size - c.args.self.walker.done =
    simp (le-ltb _ _ c.if-s-lt2.false, lt-ltb _ _ c.if-s.true) at c.requires
    in
    omega arith

pub returns-then-s : goal.returns-then-s
unfolding feed_chunk when◌then◌else◌
returns-then-s c = simp (le-ltb _ _ c.if-s-lt2.false, lt-ltb _ _ c.if-s.true) c.feed_entries.ensures

pub feed_crc-requires-clause-fits : goal.feed_crc-requires-clause-fits
unfolding request_chunk chunk_end when◌then◌else◌
feed_crc-requires-clause-fits c =
    let asked : length c.args.piece.now ≤ c.args.self.walker.size + 2 - c.args.self.walker.done =
    simp (le-ltb _ _ c.if-s-lt2.false, le-ltb _ _ c.if-s.false) at c.requires
    in
    omega (arith, c.args.self.fit.within)

pub returns : goal.returns
unfolding feed_chunk when◌then◌else◌
returns c = simp (le-ltb _ _ c.if-s-lt2.false, le-ltb _ _ c.if-s.false) c.feed_crc.ensures
