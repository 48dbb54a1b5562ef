-- What the tests of `specs/Fit.antt` show.
use Prim.Native.Nat.{◌+◌, ◌*◌, ◌-◌, ◌^◌, ◌≤◌, ◌<◌}
use mathlib.Core.Bool.{Bool, true}
use mathlib.Core.Path.{◌≡◌}
use native.Mathlib.Omega.{arith}
use lib.Dec.{eqb}
use borrow.Author.Tests.{eq-eqb, ne_eqb}
use Rattle.streaming.specs.declared.FlatWalker.{FlatWalker}
use Rattle.streaming.specs.Choose.{when◌then◌else◌}
use Rattle.streaming.proofs.Cases.{shown}
use Rattle.streaming.proofs.Choose.{in_both}
use Rattle.rules.specs.Object.{may_start, may_end}
use Rattle.chunk.proofs.Fitness.{in_chunk_shows}
use Rattle.chunk.specs.Fit.{in_chunk}
use Rattle.object.specs.Fit.{behind_entry, object_done, object_consistent, size_in_words, fit_object, FitObject}

-- ---- the words

words_shown : (s : FlatWalker) → object_done s ≡ true → s.words ≤ 2
unfolding object_done
words_shown s e =
    in_both (λ (t : Bool). t ≡ true → s.words ≤ 2) (eqb s.ms_len 0)
    (λ _ k. let few : s.words ≤ 1 = search shown in omega arith)
    (λ _ k. search shown)
    e

pub consistent_shows_words : (s : FlatWalker) → object_consistent s ≡ true → s.words ≤ 2
unfolding object_consistent
consistent_shows_words s e = let k : object_done s ≡ true = search shown in words_shown s k

-- ---- the entry that led here

record Entry (s : FlatWalker) : Type 0 where
  low : s.map.chunk + 2 < s.map.at
  high : s.map.at ≤ s.map.chunk + s.map.len
  field : s.map.field ≡ 0
  shift : s.map.shift ≡ 0
  mc : s.map.mc ≡ 0
  located : s.object ≡ s.map.loc
  near : s.object ≤ 2 ^ 63 - 1
  starts : may_start s.header s.object ≡ true

entry_shown : (s : FlatWalker) → behind_entry s ≡ true → Entry s
unfolding behind_entry
entry_shown s e = search shown

pub entry_shows_near : (s : FlatWalker) → behind_entry s ≡ true → s.object < 2 ^ 63
entry_shows_near s e = omega (arith, (entry_shown s e).near)

-- ---- the whole

record Parts (s : FlatWalker) : Type 0 where
  chunk : in_chunk s.header s.map ≡ true
  entry : behind_entry s ≡ true
  done : object_done s ≡ true
  sized : s.size < 2 ^ (15 * s.words)

parts : (s : FlatWalker) → fit_object s ≡ true → Parts s
unfolding fit_object object_consistent size_in_words
parts s e = search shown

-- in the size words, and behind them: what is done lies in the one or in the other
record InWords (s : FlatWalker) : Type 0 where
  few : s.words ≤ 1
  low : 2 * s.words ≤ s.done
  high : s.done < 2 * s.words + 2

record BehindWords (s : FlatWalker) : Type 0 where
  bytes : s.ms_len ≡ 2 * s.words
  some : 0 < s.size
  ends : may_end s.header s.object (s.object + s.ms_len + s.size + 2) ≡ true
  low : s.ms_len ≤ s.done
  high : s.done < s.ms_len + s.size + 2

in_words : (s : FlatWalker) → object_done s ≡ true → s.ms_len ≡ 0 → InWords s
unfolding object_done when◌then◌else◌
in_words s e z = let k = rw (eq-eqb _ _ z) at e in search shown

behind-words : (s : FlatWalker) → object_done s ≡ true → (s.ms_len ≡ 0 → ⊥) → BehindWords s
unfolding object_done when◌then◌else◌
behind-words s e n = let k = rw (ne_eqb _ _ n) at e in search shown

pub fit_object_shows : (s : FlatWalker) → fit_object s ≡ true → FitObject s
fit_object_shows s e =
    let p = parts s e in
    let entry = entry_shown s p.entry in
    let done = p.done in
    record {
      chunk = in_chunk_shows s.header s.map p.chunk;
      low = entry.low;
      high = entry.high;
      field = entry.field;
      shift = entry.shift;
      mc = entry.mc;
      located = entry.located;
      near = entry_shows_near s p.entry;
      starts = entry.starts;
      words = words_shown s done;
      sized = p.sized;
      few_words = λ z. (in_words s done z).few;
      word_low = λ z. (in_words s done z).low;
      word_high = λ z. (in_words s done z).high;
      word_bytes = λ n. (behind-words s done n).bytes;
      some = λ n. (behind-words s done n).some;
      ends = λ n. (behind-words s done n).ends;
      behind = λ n. (behind-words s done n).low;
      inside = λ n. (behind-words s done n).high;
    }
