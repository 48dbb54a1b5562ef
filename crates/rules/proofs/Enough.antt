-- The counts that bound the recursion over chunks and entries decide nothing: with any more, the rules are the same.
use Prim.Native.Nat.{ℕ, zero, suc, ◌+◌, ◌≤◌}
use mathlib.Core.List.{List, [], ◌∷◌}
use mathlib.Core.Path.{◌≡◌, refl, ap}
use native.Mathlib.Omega.{arith}
use lib.ListN.{length, drop, length-drop}
use lib.Dec.{leb}
use borrow.Author.Tests.{lt-leb}
use Rattle.streaming.specs.Choose.{when◌then◌else◌}
use Rattle.streaming.specs.declared.FlatHeader.{FlatHeader}
use Rattle.streaming.specs.declared.Fault.TheVariants as fault
use Rattle.account.specs.Account.{over, framing, broken}
use Rattle.account.specs.Asking.{span}
use Rattle.rules.specs.Header.{map_start, map_size, map_end}
use Rattle.rules.specs.Entry.{Entry, leads, refused, entry_in, followed, entries_from, entries_of}
use Rattle.rules.specs.Map.{chunk_size, chunk_size_turn, ask_chunks}
use Rattle.rules.specs.PlainList.{Listing, require, chunk_then, chunks_from}
use Rattle.rules.proofs.Entry.{Fits, entry_fits}

module _ (h : FlatHeader) (src : List ℕ) where
  chunks_settle : (j k chunk : ℕ) → k ≤ j → map_end h ≤ chunk + k → ask_chunks h src j chunk ≡ ask_chunks h src k chunk
  unfolding ask_chunks when◌then◌else◌
  chunks_settle zero zero chunk l e = refl
  chunks_settle (suc j) zero chunk l e = rw (lt-leb (chunk + 4) (map_end h) (omega arith))
  chunks_settle zero (suc k) chunk l e = absurd (omega arith)
  chunks_settle (suc j) (suc k) chunk l e =
      ap (λ next. when leb (chunk + 4) (map_end h) then span src chunk 2 framing (chunk_size_turn h src chunk (chunk_size src chunk) next)
      else over (broken (fault.MapChunk chunk)))
      (chunks_settle j k (chunk + chunk_size src chunk + 2) (omega arith) (omega arith))

  -- for chunks the map's size is enough
  pub chunks_enough : (k : ℕ) → map_size h ≤ k → ask_chunks h src k (map_start h) ≡ ask_chunks h src (map_size h) (map_start h)
  unfolding map_end
  chunks_enough k l = chunks_settle k (map_size h) (map_start h) l (omega arith)

  -- and of the plain list
  pub plain_settle : (j k chunk : ℕ) → k ≤ j → map_end h ≤ chunk + k → chunks_from h src j chunk ≡ chunks_from h src k chunk
  unfolding chunks_from chunk_then require
  plain_settle zero zero chunk l e = refl
  plain_settle (suc j) zero chunk l e = rw (lt-leb (chunk + 4) (map_end h) (omega arith))
  plain_settle zero (suc k) chunk l e = absurd (omega arith)
  plain_settle (suc j) (suc k) chunk l e =
      ap (λ (rest : Listing). chunk_then h src chunk (chunk_size src chunk) rest)
      (plain_settle j k (chunk + chunk_size src chunk + 2) (omega arith) (omega arith))

-- what follows an entry matters only behind its bytes, of which there is one at least
followed_alike : (room : ℕ) (e : Entry) (f g : (bytes handle location : ℕ) → List Entry) → Fits room e
    → ((n handle location : ℕ) → 1 ≤ n → f n handle location ≡ g n handle location) → followed e f ≡ followed e g
unfolding followed
followed_alike room (leads bytes handle location) f g s k = ap (λ es. leads bytes handle location ∷ es) (k bytes handle location (omega (arith, s.0)))
followed_alike room (refused bytes) f g s k = refl

pub entries_settle : (j k handle location : ℕ) (bytes : List ℕ) → k ≤ j → length bytes ≤ k
    → entries_from j handle location bytes ≡ entries_from k handle location bytes
unfolding entries_from
entries_settle zero zero handle location bytes l e = refl
entries_settle (suc j) zero handle location [] l e = refl
entries_settle (suc j) zero handle location (b ∷ bs) l e = absurd (omega arith)
entries_settle zero (suc k) handle location bytes l e = absurd (omega arith)
entries_settle (suc j) (suc k) handle location [] l e = refl
entries_settle (suc j) (suc k) handle location (b ∷ bs) l e =
    followed_alike (suc (length bs)) (entry_in handle location (b ∷ bs)) _ _ (entry_fits handle location (b ∷ bs) (omega arith))
    λ n handle location m. entries_settle j k handle location (drop n (b ∷ bs)) (omega arith) (omega (arith, length-drop n (b ∷ bs)))

-- for entries the number of their bytes is enough
pub entries_enough : (k : ℕ) (bytes : List ℕ) → length bytes ≤ k → entries_from k 0 0 bytes ≡ entries_of bytes
entries_enough k bytes l = entries_settle k (length bytes) 0 0 bytes l (omega arith)
