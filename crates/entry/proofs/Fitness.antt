-- What the test `fit_entry` shows.
use Prim.Native.Nat.{◌-◌, ◌^◌, ◌≤◌}
use mathlib.Core.Bool.{true}
use mathlib.Core.Path.{◌≡◌}
use native.Mathlib.Omega.{arith}
use Rattle.streaming.proofs.Cases.{shown}
use Rattle.streaming.specs.declared.FlatWalker.{FlatWalker}
use Rattle.chunk.proofs.Fitness.{in_chunk_shows}
use Rattle.entry.specs.Fit.{at_byte, fit_entry, FitEntry}

pub fit_entry_shows : (s : FlatWalker) → fit_entry s ≡ true → FitEntry s
unfolding fit_entry at_byte
fit_entry_shows s e =
    let near : s.map.loc ≤ 2 ^ 63 - 1 = search shown in
    record {
      chunk = search (shown, in_chunk_shows);
      low = search shown;
      high = search shown;
      field = search shown;
      shift = search shown;
      sevens = search shown;
      near = omega arith;
    }
