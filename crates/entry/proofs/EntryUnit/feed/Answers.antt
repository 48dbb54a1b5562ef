-- `feed` meets its contract: the byte's seven bits, moved up by at most 56, stay within 64.
use Prim.Native.Nat.{◌+◌, ◌^◌, ◌<◌, ◌≤◌}
use native.Mathlib.Omega.{arith}
use lib.ListN.{get_or}
use borrow.Author.Tests.{le-leb}
use lib.Pow.{shl_exact}
use Rattle.streaming.specs.Choose.{when◌then◌else◌}
use Rattle.entry.specs.Entry.{feed_entry, bits_of}
use Rattle.entry.proofs.Masks.{bits_small}
use Rattle.entry.proofs.EntryUnit.feed.Goals as goal

pub returns : goal.returns
unfolding feed_entry when◌then◌else◌
returns c =
    let m = c.args.self.walker.map in
    let small : bits_of (get_or c.args.piece.now 0 0) m.field < 2 ^ 7 = bits_small _ _ in
    let held : m.shift ≤ 56 = omega arith in
    let room : 7 + m.shift ≤ 64 = omega arith in
    rw (le-leb _ _ held, ← shl_exact 7 m.shift 64 small room, ← c.bits_of-bits.ensures) c.settle_group.ensures
