-- What the types of a state's fields say: a partial number has four bytes, and a section ends below 2^32.
use Prim.Native.Nat.{◌+◌, ◌≤◌, ◌<◌, ◌^◌}
use mathlib.Core.Path.{◌≡◌}
use mathlib.Core.List.{List}
use native.Mathlib.Omega.{arith}
use borrow.Author.Rules.{rules}
use lib.ListN.{length}
use mir.Val.{Val}
use denote.Shadow.{shadow}
use denote.Struct.Declared.{row}
use Rattle.streaming.specs.contracts.FlatWalker as walker
use Rattle.streaming.specs.declared.FlatWalker.{FlatWalker}
use Rattle.section.specs.contracts.Section as section
use Rattle.streaming.specs.Numbers.{part_number}
use Rattle.section.specs.declared.Section.{Section}
use Rattle.header.proofs.Bounds.{size_below}
use Rattle.rules.specs.Section.{frame}
use Rattle.section.specs.Section.{part_of}

pub four_in_field : (s : FlatWalker) (vs : List Val) → shadow ((row walker.the_type).own_val s vs) → length s.field ≡ 4
four_in_field s vs g = search rules

-- once the size is known, the section's end is a u32, as the locator's size
pub late_lt : (s : Section) (vs : List Val) → shadow ((row section.the_type).own_val s vs) → 20 ≤ s.walker.done → frame + s.walker.size < 2 ^ 32
late_lt s vs g h = omega (arith, size_below s.walker.header _ g.1.1.0.1.1.0.1.1.1.1.0.1.1 (part_number (part_of s.walker.stage)), s.fit.late h)
