-- The machine goes through the chunks of the map as the rules say: size, entries and checksum, then the entries again, then the next chunk.
use Rattle.std.specs.Prelude.{Ok, None}
use Prim.Native.Nat.{ℕ, zero, suc, ◌+◌, ◌-◌, ◌≤◌, ◌<◌}
use mathlib.Core.Bool.{Bool, true, false}
use mathlib.Core.List.{List, ◌++◌}
use mathlib.Core.Path.{◌≡◌, refl, sym, ap, ap₂, ◌∙◌}
use native.Mathlib.Omega.{arith}
use native.Mathlib.Nat.{add-zero, zero-add}
use lib.ListN.{length, take, length-append}
use lib.Seq.{sets, length-sets}
use lib.Dec.{leb, eqb}
use borrow.Author.Tests.{eqb-true, eqb-false, lt-ltb, le-ltb, lt-leb}
use Rattle.crc.specs.Crc.{crc_of}
use Rattle.crc.proofs.Laws.{crc_append}
use Rattle.octets.specs.Octets.{big_endian}
use Rattle.octets.proofs.Sets.{sets-append}
use Rattle.streaming.specs.Choose.{when◌then◌else◌}
use Rattle.streaming.specs.State.{in_unit}
use Rattle.streaming.specs.declared.Fault.TheVariants as fault
use Rattle.streaming.specs.declared.Stage.TheVariants as stage
use Rattle.streaming.specs.declared.FlatWalker.{FlatWalker}
use Rattle.account.specs.Account.{Account, demand, framing}
use Rattle.account.specs.Asking.{Turn, go, span, passing}
use Rattle.account.specs.Statement.{part}
use Rattle.account.proofs.Parts.{length_part}
use Rattle.account.proofs.Walks.{Phase, On, stop, lands_go, phase_on}
use Rattle.rules.specs.Bytes.{seed, checksum}
use Rattle.rules.specs.Header.{map_start, map_size, map_end}
use Rattle.rules.specs.Map.{chunk_size, chunk_computed, chunk_stored, chunk_entries, chunk_fits, chunk_turn, chunk_crc_turn, chunk_size_turn, ask_chunks}
use Rattle.rules.proofs.Map.{fits_low}
use Rattle.chunk.specs.Chunk.{chunk_at, enter_chunk, chunk_end, request_chunk, settle_chunk_size, settle_chunk, settle_chunk_crc}
use Rattle.chunk.specs.Chunk.{feed_chunk_size, feed_chunk_entries, feed_chunk_crc, feed_chunk}
use Rattle.stands.proofs.Bare.{bare_request, bare_feed, outcome, bare}
use Rattle.stands.proofs.Landing.{eqb_alike, outcome_if, if_alike, field_at, crc_at, Land, land_if, land_fell, on_if, on_failing}
use Rattle.stands.proofs.Entries.{entries_on_lem}

-- ---- where its demands end

module _ (d z : ℕ) where
  end_size : d < 2 → chunk_end d z ≡ 2
  unfolding chunk_end when◌then◌else◌
  end_size h = rw (lt-ltb d 2 h)

  end_entries : 2 ≤ d → d < z → chunk_end d z ≡ z
  unfolding chunk_end when◌then◌else◌
  end_entries h k = rw (le-ltb d 2 h, lt-ltb d z k)

  end_crc : 2 ≤ d → z ≤ d → chunk_end d z ≡ z + 2
  unfolding chunk_end when◌then◌else◌
  end_crc h k = rw (le-ltb d 2 h, le-ltb d z k)

-- ---- each demand, told once

-- a state in the chunk
abbrev in_chunk : FlatWalker → (chunk done size crc : ℕ) (field : List ℕ) → FlatWalker
in_chunk s chunk done size crc field = in_unit (chunk_at s chunk) stage.Chunk done size crc field

module _ (s : FlatWalker) (chunk : ℕ) (sound : s.failure ≡ None) where
  abbrev within : (done size crc : ℕ) (field : List ℕ) → FlatWalker
  within = in_chunk s chunk

  asks : (d z c : ℕ) (f : List ℕ) (at left : ℕ) → chunk + d ≡ at → chunk_end d z ≡ d + left → bare_request (within d z c f) ≡ demand at left
  unfolding bare_request request_chunk
  asks d z c f at left e k = rw sound (ap₂ demand e (omega (arith, k)))

  size_phase : (c : ℕ) (f : List ℕ) → Phase bare chunk 2 framing (λ q. within (length q) 0 c (sets f 0 q))
      (λ q w. outcome (settle_chunk_size (within (length q) 0 c (sets f 0 q)) (sets f 0 w) (big_endian (take 2 (sets f 0 w)))))
  unfolding bare_feed feed_chunk feed_chunk_size when◌then◌else◌
  size_phase c f =
      record {
        asking = λ q l. asks (length q) 0 c _ _ _ refl (omega (arith, end_size (length q) 0 l));
        taking = λ q p a b.
            let x : length q + length p ≡ length (q ++ p) = sym (length-append q p) in
            let y : sets (sets f 0 q) (length q) p ≡ sets f 0 (q ++ p) = rw zero-add at (sets-append f 0 q p) in
            rw (lt-ltb (length q) 2 (omega arith), y, x) (outcome_if (eqb (length (q ++ p)) 2) _ _);
      }

  -- z counts the size too
  entries_phase : (z c : ℕ) (f : List ℕ)
      → Phase bare (chunk + 2) (z - 2) framing (λ q. within (2 + length q) z (crc_of c q) f)
      (λ q w. (framing, within (2 + length w) z (crc_of c w) f))
  unfolding bare_feed feed_chunk feed_chunk_entries when◌then◌else◌
  entries_phase z c f =
      record {
        asking = λ q l. asks (2 + length q) z _ f _ _ (omega arith) (omega (arith, end_entries (2 + length q) z (omega arith) (omega arith)));
        taking = λ q p a b.
            let x : 2 + length q + length p ≡ 2 + length (q ++ p) = omega (arith, length-append q p) in
            rw (le-ltb (2 + length q) 2 (omega arith), lt-ltb (2 + length q) z (omega arith), ← crc_append c q p, x)
            (if_alike (eqb (length q + length p) (z - 2)) (framing, within (2 + length (q ++ p)) z (crc_of c (q ++ p)) f));
      }

  crc_phase : (z c : ℕ) (f : List ℕ) → 2 ≤ z
      → Phase bare (chunk + z) 2 framing (λ q. within (z + length q) z c (sets f 0 q))
      (λ q w. outcome (settle_chunk_crc (within (z + length q) z c (sets f 0 q)) (sets f 0 w) (big_endian (take 2 (sets f 0 w)))))
  unfolding bare_feed feed_chunk feed_chunk_crc when◌then◌else◌
  crc_phase z c f h =
      record {
        asking = λ q l. asks (z + length q) z c _ _ _ (omega arith) (omega (arith, end_crc (z + length q) z (omega arith) (omega arith)));
        taking = λ q p a b.
            let x : z + length q + length p ≡ z + length (q ++ p) = omega (arith, length-append q p) in
            let y : z + length q - z ≡ 0 + length q = omega arith in
            rw (
              le-ltb (z + length q) 2 (omega arith),
              le-ltb (z + length q) z (omega arith),
              y,
              sets-append f 0 q p,
              x,
              eqb_alike (z + length (q ++ p)) (z + 2) (length q + length p) 2 (λ v. omega arith) (λ v. omega arith),
            )
            (outcome_if (eqb (length q + length p) 2) _ _);
      }

-- ---- one chunk, of z bytes without its checksum

module _ (src : List ℕ) (s : FlatWalker) (chunk : ℕ) (sound : s.failure ≡ None) (z : ℕ) (next : Account)
    (after : (crc : ℕ) (field : List ℕ) → length field ≡ 4 → On bare src (enter_chunk (in_unit s stage.Chunk 0 0 crc field) (chunk + z + 2)) next) where
  abbrev inside : (done size crc : ℕ) (field : List ℕ) → FlatWalker
  inside = in_chunk s chunk

  -- the walk is over
  done_asks : (c : ℕ) (f : List ℕ) → bare_request (in_unit (chunk_at s chunk) stage.Done 4 2 c f) ≡ Ok None
  unfolding bare_request
  done_asks c f = rw sound

  whole_lands : (d c : ℕ) (f field : List ℕ) → length field ≡ 4 → 2 ≤ z → chunk + z ≤ length src
      → Land src (settle_chunk (inside d z c f) field) (chunk_turn s.header src chunk z next)
  unfolding settle_chunk chunk_turn chunk_entries enter_chunk
  whole_lands d c f field n h k =
      let l : length (part src (chunk + 2) (z - 2)) ≡ z - 2 = length_part src (chunk + 2) (z - 2) (omega arith) in
      land_if src (eqb z 2)
      (λ t. land_if src (eqb (chunk + 4) (map_end s.header)) (λ u. lands_go bare src (stop (done_asks c field) tt))
      λ u. land_fell src (inside d z c f) (fault.MapChunk chunk))
      λ t. lands_go bare src (entries_on_lem src chunk z k next _ (in_unit (inside d z c f) stage.Entry (z + 2) z c field) refl
      (record { sound = sound; field = n; head = refl }) (chunk + 2) 0 0 (z - 2)
      (omega arith) (omega (arith, eqb-false z 2 t)) (omega arith) (omega arith) after)

  -- what is asked for behind the entries
  abbrev ask_crc : Account
  ask_crc = span src (chunk + z) 2 framing (chunk_crc_turn s.header src chunk z (chunk_computed src chunk z) (chunk_stored src chunk z) next)

  crc_lands : (d c : ℕ) (f field : List ℕ) (x : ℕ) → length field ≡ 4 → 2 ≤ z → chunk + z ≤ length src
      → Land src (settle_chunk_crc (inside d z c f) field x) (chunk_crc_turn s.header src chunk z c x next)
  unfolding settle_chunk_crc chunk_crc_turn
  crc_lands d c f field x n h k = land_if src (eqb x c) (λ t. whole_lands d c f field n h k) λ t. land_fell src (inside d z c f) (fault.MapCrc chunk c x)

  crc_on : (d c : ℕ) (f : List ℕ) → d ≡ z → 2 ≤ z → length f ≡ 4 → c ≡ chunk_computed src chunk z → On bare src (inside d z c f) ask_crc
  unfolding chunk_stored
  crc_on d c f e h n ec =
      let t : Turn = chunk_crc_turn s.header src chunk z c (chunk_stored src chunk z) next in
      rw (e, ← ec) (rw (add-zero z) at (phase_on bare src {t = t} (crc_phase s chunk sound z c f h) (omega arith) λ k q.
      let w : List ℕ = part src (chunk + z) 2 in
      rw (field_at src f (chunk + z) 2 k (omega arith))
      (crc_lands (z + length q) c (sets f 0 q) (sets f 0 w) (big_endian w) (length-sets f 0 w ∙ n) h (omega arith))))

  -- the entries, if there are any
  entries_read : (f : List ℕ) → 2 ≤ z → length f ≡ 4
      → On bare src (inside 2 z (checksum (part src chunk 2)) f) (passing src (chunk + 2) (z - 2) framing ask_crc)
  unfolding span chunk_computed crc_of
  entries_read f h n = split (eqb z 2) refl
    where
      split : (b : Bool) → eqb z 2 ≡ b → On bare src (inside 2 z (checksum (part src chunk 2)) f) (passing src (chunk + 2) (z - 2) framing ask_crc)
      split true e =
          let x : 2 ≡ z = sym (eqb-true z 2 e) in
          let y : z - 2 ≡ 0 = omega arith in
          rw y (crc_on 2 _ f x h n (ap (λ (k : ℕ). checksum (part src chunk k)) x))
      split false e =
          phase_on bare src {t = go framing ask_crc} (entries_phase s chunk sound z (checksum (part src chunk 2)) f) (omega (arith, eqb-false z 2 e)) λ k q.
          let w : List ℕ = part src (chunk + 2) (z - 2) in
          let l : length (part src (chunk + 2) (z - 2)) ≡ z - 2 = length_part src (chunk + 2) (z - 2) (omega arith) in
          let x : 2 + (z - 2) ≡ z = omega arith in
          lands_go bare src (crc_on (2 + length w) (crc_of (checksum (part src chunk 2)) w) f (omega (arith, l)) h n
          (crc_at src seed chunk 2 (z - 2) ∙ ap (λ (k : ℕ). checksum (part src chunk k)) x))

  size_lands : (d c : ℕ) (f field : List ℕ) → length field ≡ 4 → take 2 field ≡ part src chunk 2
      → Land src (settle_chunk_size (inside d 0 c f) field z) (chunk_size_turn s.header src chunk z next)
  unfolding settle_chunk_size chunk_size_turn
  size_lands d c f field n e =
      land_if src (chunk_fits s.header chunk z)
      (λ t. rw e (lands_go bare src (entries_read field (fits_low s.header chunk z t) n)))
      λ t. land_fell src (inside d 0 c f) (fault.MapChunk chunk)

-- ---- the map

-- From any chunk on. The count bounds the recursion alone: it runs out behind the map's end.
pub chunks_on_lem : (src : List ℕ) (k : ℕ) (s : FlatWalker) (chunk : ℕ) → s.failure ≡ None → length s.field ≡ 4
    → map_end s.header ≤ chunk + k → On bare src (enter_chunk s chunk) (ask_chunks s.header src k chunk)
unfolding enter_chunk ask_chunks chunk_size when◌then◌else◌
chunks_on_lem src zero s chunk sound n h =
    rw (lt-leb (chunk + 4) (map_end s.header) (omega arith)) (on_failing src (chunk_at s chunk) (fault.MapChunk chunk))
chunks_on_lem src (suc k) s chunk sound n h =
    on_if src (leb (chunk + 4) (map_end s.header))
    (λ e. phase_on bare src (size_phase s chunk sound s.crc s.field) (omega arith) λ o q.
    let w : List ℕ = part src chunk 2 in
    let x : take 2 (sets s.field 0 w) ≡ w = field_at src s.field chunk 2 o (omega arith) in
    rw x (size_lands src s chunk sound (big_endian w) _
    (λ crc field m. chunks_on_lem src k (in_unit s stage.Chunk 0 0 crc field) (chunk + big_endian w + 2) sound m (omega arith))
    (length q) s.crc (sets s.field 0 q) (sets s.field 0 w) (length-sets s.field 0 w ∙ n) x))
    λ e. on_failing src (chunk_at s chunk) (fault.MapChunk chunk)

-- The map's size is enough of a count.
pub map_on : (src : List ℕ) (s : FlatWalker) → s.failure ≡ None → length s.field ≡ 4
    → On bare src (enter_chunk s (map_start s.header)) (ask_chunks s.header src (map_size s.header) (map_start s.header))
unfolding map_end
map_on src s sound n = chunks_on_lem src (map_size s.header) s (map_start s.header) sound n (omega arith)
