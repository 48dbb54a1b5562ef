-- Each demand of an object, told once: a size word, the data, the checksum. Short names: d bytes are done, z is the size, c the checksum so far, f the
-- field, h the head (the first bytes of the data), ms the bytes of the size field, wd its words.
use Rattle.std.specs.Prelude.{None}
use Prim.Native.Nat.{ℕ, ◌+◌, ◌-◌, ◌%◌, ◌≤◌, ◌<◌}
use mathlib.Core.List.{List, ◌++◌}
use mathlib.Core.Path.{◌≡◌, refl, ap₂}
use native.Mathlib.Omega.{arith}
use lib.ListN.{length, take, length-append}
use lib.Seq.{sets}
use lib.Dec.{eqb}
use borrow.Author.Tests.{lt-ltb, le-ltb, eq-eqb, ne_eqb}
use Rattle.crc.specs.Crc.{crc_of}
use Rattle.crc.proofs.Laws.{crc_append}
use Rattle.octets.specs.Octets.{little_endian}
use Rattle.octets.proofs.Sets.{sets-append, sets_front}
use Rattle.streaming.specs.Choose.{when◌then◌else◌}
use Rattle.streaming.specs.State.{in_unit, with_object}
use Rattle.streaming.specs.declared.Part.TheVariants.{Object}
use Rattle.streaming.specs.declared.Stage.TheVariants as stage
use Rattle.streaming.specs.declared.FlatWalker.{FlatWalker}
use Rattle.account.specs.Account.{demand, framing, payload}
use Rattle.account.proofs.Walks.{Phase}
use Rattle.object.specs.Object.{object_end, request_object, settle_word, settle_object_crc}
use Rattle.object.specs.Object.{feed_word, feed_object_data, feed_object_crc, feed_object}
use Rattle.stands.proofs.Bare.{bare_request, bare_feed, outcome, bare}
use Rattle.stands.proofs.Landing.{eqb_alike, outcome_if, if_alike}

-- ---- where its demands end

module _ (d z ms : ℕ) where
  end_word : ms ≡ 0 → object_end d z ms ≡ d - d % 2 + 2
  unfolding object_end when◌then◌else◌
  end_word h = rw (eq-eqb ms 0 h)

  end_data : 0 < ms → d < ms + z → object_end d z ms ≡ ms + z
  unfolding object_end when◌then◌else◌
  end_data h k = rw (ne_eqb ms 0 (omega arith), lt-ltb d (ms + z) k)

  end_crc : 0 < ms → ms + z ≤ d → object_end d z ms ≡ ms + z + 2
  unfolding object_end when◌then◌else◌
  end_crc h k = rw (ne_eqb ms 0 (omega arith), le-ltb d (ms + z) k)

-- ---- each demand, told once

-- a state in the object
abbrev pub in_object : FlatWalker → (location done size crc : ℕ) (field head : List ℕ) (ms_len words : ℕ) → FlatWalker
in_object s location done size crc field head ms_len words = with_object (in_unit s stage.Object done size crc field) head location ms_len words

module _ (s : FlatWalker) (location : ℕ) (sound : s.failure ≡ None) where
  abbrev inside : (done size crc : ℕ) (field head : List ℕ) (ms_len words : ℕ) → FlatWalker
  inside = in_object s location

  asks : (d z c : ℕ) (f h : List ℕ) (ms wd at left : ℕ) → location + d ≡ at → object_end d z ms ≡ d + left
      → bare_request (inside d z c f h ms wd) ≡ demand at left
  unfolding bare_request request_object
  asks d z c f h ms wd at left e k = rw sound (ap₂ demand e (omega (arith, k)))

  -- a size word, k bytes behind the location
  pub word_phase : (k z c : ℕ) (f h : List ℕ) (wd : ℕ) → k % 2 ≡ 0
      → Phase bare (location + k) 2 framing (λ q. inside (k + length q) z (crc_of c q) (sets f 0 q) h 0 wd)
      (λ q w. outcome (settle_word (inside (k + length q) z (crc_of c q) (sets f 0 q) h 0 wd) (k + length w) (crc_of c w) (sets f 0 w)
      (little_endian (take 2 (sets f 0 w)))))
  unfolding bare_feed feed_object feed_word when◌then◌else◌
  word_phase k z c f h wd e =
      record {
        asking = λ q l. asks (k + length q) z _ _ h 0 wd _ _ (omega arith) (omega (arith, end_word (k + length q) z 0 refl));
        taking = λ q p a b.
            let x : k + length q + length p ≡ k + length (q ++ p) = omega (arith, length-append q p) in
            let y : (k + length q) % 2 ≡ 0 + length q = omega arith in
            rw (
              y,
              sets-append f 0 q p,
              ← crc_append c q p,
              x,
              eqb_alike ((k + length (q ++ p)) % 2) 0 (length q + length p) 2 (λ v. omega arith) (λ v. omega arith),
            )
            (outcome_if (eqb (length q + length p) 2) _ _);
      }

  pub data_phase : (z c : ℕ) (f h : List ℕ) (ms wd : ℕ) → 0 < ms
      → Phase bare (location + ms) z (payload Object) (λ q. inside (ms + length q) z (crc_of c q) f (sets h 0 (take 16 q)) ms wd)
      (λ q w. (payload Object, inside (ms + length w) z (crc_of c w) f (sets h 0 (take 16 w)) ms wd))
  unfolding bare_feed feed_object feed_object_data when◌then◌else◌
  data_phase z c f h ms wd n =
      record {
        asking = λ q l. asks (ms + length q) z _ f _ ms wd _ _ (omega arith) (omega (arith, end_data (ms + length q) z ms n (omega arith)));
        taking = λ q p a b.
            let x : ms + length q + length p ≡ ms + length (q ++ p) = omega (arith, length-append q p) in
            let y : ms + length q - ms ≡ length q = omega arith in
            rw (ne_eqb ms 0 (omega arith), lt-ltb (ms + length q) (ms + z) (omega arith), y, sets_front h 16 q p, ← crc_append c q p, x)
            (if_alike (eqb (length q + length p) z)
            (payload Object, inside (ms + length (q ++ p)) z (crc_of c (q ++ p)) f (sets h 0 (take 16 (q ++ p))) ms wd));
      }

  pub crc_phase : (z c : ℕ) (f h : List ℕ) (ms wd : ℕ) → 0 < ms
      → Phase bare (location + ms + z) 2 framing (λ q. inside (ms + z + length q) z c (sets f 0 q) h ms wd)
      (λ q w. outcome (settle_object_crc (inside (ms + z + length q) z c (sets f 0 q) h ms wd) (sets f 0 w) (little_endian (take 2 (sets f 0 w)))))
  unfolding bare_feed feed_object feed_object_crc when◌then◌else◌
  crc_phase z c f h ms wd n =
      record {
        asking = λ q l. asks (ms + z + length q) z c _ h ms wd _ _ (omega arith) (omega (arith, end_crc (ms + z + length q) z ms n (omega arith)));
        taking = λ q p a b.
            let x : ms + z + length q + length p ≡ ms + z + length (q ++ p) = omega (arith, length-append q p) in
            let y : ms + z + length q - (ms + z) ≡ 0 + length q = omega arith in
            rw (
              ne_eqb ms 0 (omega arith),
              le-ltb (ms + z + length q) (ms + z) (omega arith),
              y,
              sets-append f 0 q p,
              x,
              eqb_alike (ms + z + length (q ++ p)) (ms + z + 2) (length q + length p) 2 (λ v. omega arith) (λ v. omega arith),
            )
            (outcome_if (eqb (length q + length p) 2) _ _);
      }
