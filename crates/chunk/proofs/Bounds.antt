-- What the types of a state's fields say: a chunk lies below 2^33.
use Prim.Native.Nat.{◌+◌, ◌<◌, ◌^◌}
use mathlib.Core.List.{List}
use native.Mathlib.Omega.{arith}
use mir.Val.{Val}
use denote.Shadow.{shadow}
use denote.Struct.Declared.{row}
use Rattle.chunk.specs.contracts.Chunk as chunk
use Rattle.chunk.specs.declared.Chunk.{Chunk}
use Rattle.header.proofs.Bounds.{map_end_of}

pub chunk_below : (c : Chunk) (vs : List Val) → shadow ((row chunk.the_type).own_val c vs) → c.walker.map.chunk + c.walker.size + 2 < 2 ^ 33
chunk_below c vs g = omega (arith, map_end_of c.walker _ g.1.1.0, c.fit.inside)
