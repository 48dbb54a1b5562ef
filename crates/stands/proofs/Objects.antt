-- The machine goes through an object as the rules say: one or two size words, the data, the checksum, the verdict. (Short names: ObjectDemands.)
use Rattle.std.specs.Prelude.{None}
use Prim.Native.Nat.{ℕ, ◌+◌, ◌*◌, ◌%◌, ◌^◌, min, ◌≤◌, ◌<◌}
use mathlib.Core.Bool.{Bool, true, false}
use mathlib.Core.List.{List}
use mathlib.Core.Path.{◌≡◌, refl, ap, ◌∙◌}
use native.Mathlib.Omega.{arith}
use native.Mathlib.Nat.{add-zero}
use lib.ListN.{length, take, length-take}
use lib.Seq.{sets, length-sets, take_at, drop_at}
use lib.Dec.{ltb, eqb}
use lib.Bits.{bit_or, or_shifted_r}
use borrow.Author.Tests.{ltb-true}
use Rattle.crc.specs.Crc.{crc_of}
use Rattle.octets.specs.Octets.{little_endian}
use Rattle.octets.proofs.Sets.{take-sets}
use Rattle.streaming.specs.Choose.{when◌then◌else◌}
use Rattle.streaming.specs.State.{in_unit, with_object, fell}
use Rattle.streaming.specs.declared.Part.TheVariants.{Object}
use Rattle.streaming.specs.declared.Fault.TheVariants as fault
use Rattle.streaming.specs.declared.Stage.TheVariants as stage
use Rattle.streaming.specs.declared.FlatWalker.{FlatWalker}
use Rattle.account.specs.Account.{Account, framing, payload}
use Rattle.account.specs.Asking.{Turn, go, span}
use Rattle.account.specs.Statement.{part}
use Rattle.account.proofs.Parts.{length_part, part_add}
use Rattle.account.proofs.Walks.{On, Lands, lands_go, phase_on}
use Rattle.rules.specs.Bytes.{seed, checksum}
use Rattle.rules.specs.Header.{is_r2000}
use Rattle.rules.specs.Prologue.{prologue_of}
use Rattle.rules.specs.Object.{Size, sized, unending, is_last, size_of_words, may_start, may_end, first_word, size_at, object_computed, object_stored}
use Rattle.rules.specs.Object.{Verdict, holds, fails, named, verdict, verdict_turn, ask_object_data, object_size_turn, ask_object, object_turn}
use Rattle.object.specs.Object.{enter_object, leave_object, settle_object_size, settle_word, settle_verdict, settle_object_crc}
use Rattle.stands.proofs.Bare.{outcome, bare}
use Rattle.stands.proofs.Landing.{field_at, crc_at, Land, land_if, land_fell}
use Rattle.stands.proofs.ObjectDemands.{in_object, word_phase, data_phase, crc_phase}

-- ---- what the rules read

-- the two words
words_at : (src : List ℕ) (location : ℕ) → location + 2 ≤ length src
    → size_at src location ≡ size_of_words (first_word src location) (little_endian (part src (location + 2) 2))
unfolding size_at
words_at src location h =
    let n : length (part src location 2) ≡ 2 = length_part src location 2 (omega arith) in
    rw (
      ← part_add src location 2 2,
      take_at (part src location 2) (part src (location + 2) 2) 2 n,
      drop_at (part src location 2) (part src (location + 2) 2) 2 n,
    )

-- the first bytes of the data
head_at : (src h : List ℕ) (at z : ℕ) → at + z ≤ length src → length h ≡ 16
    → take (min z 16) (sets h 0 (take 16 (part src at z))) ≡ take 16 (part src at z)
head_at src h at z k n =
    take-sets h (take 16 (part src at z)) (min z 16) (length-take 16 (part src at z) ∙ omega (arith, length_part src at z (omega arith))) (omega arith)

-- ---- and what each decision leads to

module _ (src : List ℕ) (s : FlatWalker) (location : ℕ) (sound : s.failure ≡ None) (next : Account)
    (after : (done size crc ms_len words : ℕ) (field head : List ℕ) → length field ≡ 4 → length head ≡ 16
    → On bare src (leave_object (in_object s location done size crc field head ms_len words)) next) where
  abbrev handle : ℕ
  handle = s.map.handle

  abbrev inside : (done size crc : ℕ) (field head : List ℕ) (ms_len words : ℕ) → FlatWalker
  inside = in_object s location

  -- what is asked for behind the data
  abbrev ask_crc : (ms z : ℕ) → Account
  ask_crc ms z = span src (location + ms + z) 2 framing (verdict_turn next (verdict s.header src handle location ms z))

  abbrev size_turn : Size → Turn
  size_turn = object_size_turn s.header src handle location next

  abbrev second_word : ℕ
  second_word = little_endian (part src (location + 2) 2)

  -- behind the first word
  abbrev word_turn : ℕ → Size → Turn
  word_turn v x = when is_last v then size_turn x else go framing (span src (location + 2) 2 framing (size_turn x))

  verdict_lands : (d z c : ℕ) (f h : List ℕ) (ms wd : ℕ) (field : List ℕ) → length field ≡ 4 → length h ≡ 16 → (v : Verdict)
      → Land src (settle_verdict (inside d z c f h ms wd) field v) (verdict_turn next v)
  unfolding settle_verdict verdict_turn
  verdict_lands d z c f h ms wd field n m (holds r) = lands_go bare src (after (ms + z + 2) z c ms wd field h n m)
  verdict_lands d z c f h ms wd field n m (fails x) = land_fell src (inside d z c f h ms wd) x

  crc_lands : (d z c : ℕ) (f h : List ℕ) (ms wd : ℕ) (field : List ℕ) (x : ℕ) → length field ≡ 4 → length h ≡ 16
      → x ≡ object_stored src location ms z → c ≡ object_computed src location ms z → take (min z 16) h ≡ take 16 (part src (location + ms) z)
      → Land src (settle_object_crc (inside d z c f h ms wd) field x)
      (verdict_turn next (verdict s.header src handle location ms z))
  unfolding settle_object_crc verdict verdict_turn when◌then◌else◌
  crc_lands d z c f h ms wd field x n m ex ec eh = rw (← ex, ← ec, ← eh) (split (eqb x c))
    where
      split : (b : Bool) → Land src (when b then settle_verdict (inside d z c f h ms wd) field
          (named handle location z (prologue_of (is_r2000 s.header) (take (min z 16) h))) else fell (fault.ObjectCrc handle c x) (inside d z c f h ms wd))
          (verdict_turn next
          (when b then named handle location z (prologue_of (is_r2000 s.header) (take (min z 16) h)) else fails (fault.ObjectCrc handle c x)))
      split true = verdict_lands d z c f h ms wd field n m _
      split false = land_fell src (inside d z c f h ms wd) (fault.ObjectCrc handle c x)

  crc_on : (z c : ℕ) (f h : List ℕ) (ms wd : ℕ) → 0 < ms → length f ≡ 4 → length h ≡ 16
      → c ≡ object_computed src location ms z → take (min z 16) h ≡ take 16 (part src (location + ms) z)
      → On bare src (inside (ms + z) z c f h ms wd) (ask_crc ms z)
  unfolding object_stored
  crc_on z c f h ms wd p n m ec eh =
      rw (add-zero (ms + z)) at (phase_on bare src (crc_phase s location sound z c f h ms wd p) (omega arith) λ k q.
      let w : List ℕ = part src (location + ms + z) 2 in
      crc_lands (ms + z + length q) z c (sets f 0 q) h ms wd (sets f 0 w) _ (length-sets f 0 w ∙ n) m
      (ap little_endian (field_at src f (location + ms + z) 2 k (omega arith))) ec eh)

  data_on : (z : ℕ) (f h : List ℕ) (ms wd : ℕ) → 0 < z → 0 < ms → length f ≡ 4 → length h ≡ 16
      → On bare src (inside ms z (checksum (part src location ms)) f h ms wd) (ask_object_data s.header src handle location next ms z)
  unfolding ask_object_data object_computed crc_of
  data_on z f h ms wd o p n m =
      let c : ℕ = checksum (part src location ms) in
      rw (add-zero ms) at (phase_on bare src {t = go (payload Object) (ask_crc ms z)} (data_phase s location sound z c f h ms wd p) o λ k q.
      let w : List ℕ = part src (location + ms) z in
      let e : length (part src (location + ms) z) ≡ z = length_part src (location + ms) z (omega arith) in
      rw e (lands_go bare src (crc_on z (crc_of c w) f (sets h 0 (take 16 w)) ms wd p n (length-sets h 0 (take 16 w) ∙ m)
      (crc_at src seed location ms z) (head_at src h (location + ms) z k m))))

  sized_lands : (d z₀ c : ℕ) (f h : List ℕ) (wd ms z : ℕ) (field : List ℕ) → 0 < ms → length field ≡ 4 → length h ≡ 16
      → Land src (settle_object_size (inside d z₀ c f h 0 wd) ms z (checksum (part src location ms)) field) (size_turn (sized ms z))
  unfolding settle_object_size object_size_turn
  sized_lands d z₀ c f h wd ms z field p n m =
      land_if src (ltb 0 z)
      (λ t. land_if src (may_end s.header location (location + ms + z + 2)) (λ u. lands_go bare src (data_on z field h ms (wd + 1) (ltb-true 0 z t) p n m))
      λ u. land_fell src (inside d z₀ c f h 0 wd) (fault.ObjectRange handle location))
      λ t. land_fell src (inside d z₀ c f h 0 wd) (fault.ObjectSize handle)

  second_lands : (d c : ℕ) (f h field : List ℕ) (v w : ℕ) → is_last v ≡ false → length field ≡ 4 → length h ≡ 16
      → Land src (settle_word (inside d (v % 0x8000) c f h 0 1) 4 (checksum (part src location 4)) field w) (size_turn (size_of_words v w))
  unfolding settle_word size_of_words object_size_turn when◌then◌else◌
  second_lands d c f h field v w e n m = rw e (split (is_last w) refl)
    where
      split : (b : Bool) → is_last w ≡ b → Land src
          (when b then settle_object_size (inside d (v % 0x8000) c f h 0 1) 4 (bit_or (v % 0x8000) (w % 0x8000 * 2 ^ 15)) (checksum (part src location 4)) field
          else fell (fault.ObjectSize handle) (inside d (v % 0x8000) c f h 0 1))
          (size_turn (when b then sized 4 (v % 0x8000 + 0x8000 * w) else unending))
      split true t =
          let l : w < 0x8000 = ltb-true w 0x8000 t in
          let z : bit_or (v % 0x8000) (w % 0x8000 * 2 ^ 15) ≡ v % 0x8000 + 0x8000 * w =
          or_shifted_r (w % 0x8000) 15 (v % 0x8000) (omega arith) ∙ omega arith in
          rw z (sized_lands d (v % 0x8000) c f h 1 4 (v % 0x8000 + 0x8000 * w) field (omega arith) n m)
      split false t = land_fell src (inside d (v % 0x8000) c f h 0 1) (fault.ObjectSize handle)

  -- a size word, the first at 0 and the second at 2
  word_on : (k z : ℕ) (f h : List ℕ) (wd : ℕ) (t : Turn) → k % 2 ≡ 0 → length f ≡ 4
      → ((d c : ℕ) (f field : List ℕ) → location + k + 2 ≤ length src → length field ≡ 4
      → Land src (settle_word (inside d z c f h 0 wd) (k + 2) (checksum (part src location (k + 2))) field (little_endian (part src (location + k) 2))) t)
      → On bare src (inside k z (checksum (part src location k)) f h 0 wd) (span src (location + k) 2 framing t)
  unfolding crc_of
  word_on k z f h wd t e n l =
      rw (add-zero k) at (phase_on bare src {t = t} (word_phase s location sound k z (checksum (part src location k)) f h wd e) (omega arith) λ o q.
      let w : List ℕ = part src (location + k) 2 in
      let x : length (part src (location + k) 2) ≡ 2 = length_part src (location + k) 2 (omega arith) in
      rw (x, crc_at src seed location k 2, field_at src f (location + k) 2 o (omega arith))
      (l (k + length q) (crc_of (checksum (part src location k)) q) (sets f 0 q) (sets f 0 w) o (length-sets f 0 w ∙ n)))

  first_lands : (d c : ℕ) (f h field : List ℕ) (v : ℕ) → length field ≡ 4 → length h ≡ 16
      → Land src (settle_word (inside d 0 c f h 0 0) 2 (checksum (part src location 2)) field v) (word_turn v (size_of_words v second_word))
  unfolding settle_word size_of_words when◌then◌else◌
  first_lands d c f h field v n m =
      land_if src (is_last v)
      (λ t.
      let l : v < 0x8000 = ltb-true v 0x8000 t in
      let z : v % 0x8000 * 1 ≡ v = omega arith in
      rw (t, z) (sized_lands d 0 c f h 0 2 v field (omega arith) n m))
      λ t.
      let z : v % 0x8000 * 1 ≡ v % 0x8000 = omega arith in
      rw z (lands_go bare src (word_on 2 (v % 0x8000) field h 1 _ refl n λ d c f field k j. second_lands d c f h field v second_word t j m))

  object_on : (f h : List ℕ) → length f ≡ 4 → length h ≡ 16 → On bare src (inside 0 0 seed f h 0 0) (ask_object s.header src handle location next)
  unfolding ask_object crc_of
  object_on f h n m =
      rw (add-zero location) at (word_on 0 0 f h 0 (word_turn (first_word src location) (size_at src location)) refl n λ d c f field k j.
      rw (add-zero location, words_at src location (omega arith)) (first_lands d c f h field (first_word src location) j m))

-- ---- entered at a location

pub object_lands : (src : List ℕ) (s : FlatWalker) (location : ℕ) → s.failure ≡ None → length s.field ≡ 4 → length s.head ≡ 16
    → (next : Account)
    → ((done size crc ms_len words : ℕ) (field head : List ℕ) → length field ≡ 4 → length head ≡ 16
    → On bare src (leave_object (with_object (in_unit s stage.Object done size crc field) head location ms_len words)) next)
    → Lands bare src (outcome (enter_object s location)) (object_turn s.header src s.map.handle location next)
unfolding enter_object object_turn
object_lands src s location sound n m next after =
    land_if src (may_start s.header location) (λ t. lands_go bare src (object_on src s location sound next after s.field s.head n m))
    λ t. land_fell src s (fault.ObjectRange s.map.handle location)
