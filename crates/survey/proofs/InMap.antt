-- Laws of a chunk that is looked at field by field: where the first fault is, the walk ends there.
use Rattle.std.specs.Prelude.{Ok, None}
use Prim.Native.Nat.{ℕ, ◌+◌, ◌<◌, ◌≤◌}
use mathlib.Core.Bool.{true, false}
use mathlib.Core.List.{List}
use mathlib.Core.Path.{◌≡◌}
use borrow.Author.Tests.{le-leb, lt-leb, eq-eqb, ne_eqb}
use Rattle.streaming.specs.Choose.{when◌then◌else◌}
use Rattle.streaming.specs.declared.FlatHeader.{FlatHeader}
use Rattle.streaming.specs.declared.Fault.TheVariants as fault
use Rattle.account.specs.Account.{broken}
use Rattle.rules.specs.Header.{map_end}
use Rattle.rules.specs.Map.{chunk_size, chunk_computed, chunk_stored, chunk_entries, chunk_fits}
use Rattle.rules.specs.PlainList.{Listing, stop, require, entries_then, checked_chunk_then, chunk_then}

module _ (h : FlatHeader) (src : List ℕ) (chunk : ℕ) (rest : Listing) where
  abbrev goes : Listing
  goes = chunk_then h src chunk (chunk_size src chunk) rest

  pub past_end : map_end h < chunk + 4 → goes ≡ stop (broken (fault.MapChunk chunk))
  unfolding chunk_then require
  past_end l = rw (lt-leb (chunk + 4) (map_end h) l)

  module _ (i : chunk + 4 ≤ map_end h) (size : ℕ) (z : size ≡ chunk_size src chunk) where
    pub unfit : chunk_fits h chunk size ≡ false → goes ≡ stop (broken (fault.MapChunk chunk))
    unfolding chunk_then require
    unfit f = rw (le-leb (chunk + 4) (map_end h) i, ← z, f)

    module _ (f : chunk_fits h chunk size ≡ true) (computed stored : ℕ) (c : computed ≡ chunk_computed src chunk size) (d : stored ≡ chunk_stored src chunk size) where
      pub other_sum : (stored ≡ computed → ⊥) → goes ≡ stop (broken (fault.MapCrc chunk computed stored))
      unfolding chunk_then require
      other_sum k = rw (le-leb (chunk + 4) (map_end h) i, ← z, f, ← c, ← d, ne_eqb stored computed k)

      module _ (k : stored ≡ computed) where
        checked : goes ≡ checked_chunk_then h src chunk size rest
        unfolding chunk_then require
        checked = rw (le-leb (chunk + 4) (map_end h) i, ← z, f, ← c, ← d, eq-eqb stored computed k)

        pub with_entries : (size ≡ 2 → ⊥) → goes ≡ entries_then h src (chunk_entries src chunk size) (chunk + 2) rest
        unfolding checked_chunk_then when◌then◌else◌
        with_entries n = rw (checked, ne_eqb size 2 n)

        module _ (t : size ≡ 2) where
          pub ends-map : chunk + 4 ≡ map_end h → goes ≡ stop (Ok None)
          unfolding checked_chunk_then require when◌then◌else◌
          ends-map e = rw (checked, eq-eqb size 2 t, eq-eqb (chunk + 4) (map_end h) e)

          pub ends-early : (chunk + 4 ≡ map_end h → ⊥) → goes ≡ stop (broken (fault.MapChunk chunk))
          unfolding checked_chunk_then require when◌then◌else◌
          ends-early e = rw (checked, eq-eqb size 2 t, ne_eqb (chunk + 4) (map_end h) e)
