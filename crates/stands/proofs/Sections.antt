-- The machine goes through a section as the rules say: the start sentinel, the size, the data, the checksum, the end sentinel. (Short names:
-- SectionDemands.)
use Rattle.std.specs.Prelude.{None}
use Prim.Native.Nat.{ℕ, ◌+◌}
use mathlib.Core.Bool.{Bool, true, false}
use mathlib.Core.List.{List}
use mathlib.Core.Path.{◌≡◌, refl, sym, ap, ◌∙◌}
use native.Mathlib.Omega.{arith}
use native.Mathlib.Nat.{add-zero}
use lib.ListN.{length}
use lib.Seq.{sets, length-sets, take_all}
use lib.Dec.{leb, eqb}
use borrow.Author.Tests.{eqb-true, eqb-false}
use Rattle.crc.specs.Crc.{crc_of}
use Rattle.octets.specs.Octets.{little_endian}
use Rattle.streaming.specs.Numbers.{part_number}
use Rattle.streaming.specs.State.{in_unit}
use Rattle.streaming.specs.declared.Fault.TheVariants as fault
use Rattle.streaming.specs.declared.Stage.{Stage}
use Rattle.streaming.specs.declared.FlatWalker.{FlatWalker}
use Rattle.account.specs.Account.{Account, framing, payload}
use Rattle.account.specs.Asking.{go, span, spell}
use Rattle.account.specs.Statement.{part}
use Rattle.account.proofs.Parts.{length_part}
use Rattle.account.proofs.Walks.{On, lands_go, phase_on, spelled_on}
use Rattle.rules.specs.Bytes.{seed, checksum}
use Rattle.rules.specs.Header.{locator_of}
use Rattle.rules.specs.Section.{frame, start_sentinel, end_sentinel, section_size, section_computed, section_stored}
use Rattle.rules.specs.Section.{ask_section_end, section_crc_turn, ask_section_data, section_size_turn, ask_section}
use Rattle.rules.proofs.Section.{length-start, length_end}
use Rattle.section.specs.Section.{part_of, enter_section, enter_next, settle_section_size, settle_section_crc, settle_section}
use Rattle.stands.proofs.Bare.{bare}
use Rattle.stands.proofs.Landing.{field_at, crc_at, Land, land_if, land_fell, on_if, on_failing}
use Rattle.stands.proofs.SectionDemands.{InSection, is_section, start_spelled, size_phase, data_phase, crc_phase, end_spelled}

module _ (src : List ℕ) (s : FlatWalker) (g : Stage) (isg : InSection g) (sound : s.failure ≡ None) (next : Account)
    (after : (done size crc : ℕ) (field : List ℕ) → length field ≡ 4 → On bare src (enter_next g (in_unit s g done size crc field)) next) where
  abbrev start : ℕ
  start = (locator_of s.header (part_number (part_of g))).offset

  abbrev total : ℕ
  total = (locator_of s.header (part_number (part_of g))).size

  abbrev inside : (done size crc : ℕ) (field : List ℕ) → FlatWalker
  inside = in_unit s g

  end_on : (z c : ℕ) (f : List ℕ) → length f ≡ 4 → On bare src (inside (22 + z) z c f) (ask_section_end src (part_of g) start next z)
  unfolding ask_section_end settle_section
  end_on z c f n =
      let m : length (end_sentinel (part_of g)) ≡ 16 = length_end (is_section isg) in
      rw (add-zero (22 + z)) at (spelled_on bare src (end_spelled s g isg sound z c f) (omega arith) λ k d.
      lands_go bare src (after (22 + z + d) z c f n))

  crc_lands : (d z c : ℕ) (f field : List ℕ) (x : ℕ) → length field ≡ 4 → x ≡ section_stored src start z → c ≡ section_computed src start z
      → Land src (settle_section_crc (inside d z c f) field x)
      (section_crc_turn src (part_of g) start next z (section_computed src start z) (section_stored src start z))
  unfolding settle_section_crc section_crc_turn
  crc_lands d z c f field x n ex ec =
      rw (← ex, ← ec) (land_if src (eqb x c) (λ t. lands_go bare src (end_on z c field n))
      λ t. land_fell src (inside d z c f) (fault.SectionCrc (part_number (part_of g)) c x))

  -- what is asked for behind the data
  abbrev ask_crc : (z : ℕ) → Account
  ask_crc z =
      span src (start + 20 + z) 2 framing (section_crc_turn src (part_of g) start next z (section_computed src start z) (section_stored src start z))

  crc_on : (z c : ℕ) (f : List ℕ) → length f ≡ 4 → c ≡ section_computed src start z → On bare src (inside (20 + z) z c f) (ask_crc z)
  unfolding section_stored
  crc_on z c f n ec =
      rw (add-zero (20 + z)) at (phase_on bare src (crc_phase s g isg sound z c f) (omega arith) λ k q.
      let w : List ℕ = part src (start + 20 + z) 2 in
      crc_lands (20 + z + length q) z c (sets f 0 q) (sets f 0 w) _ (length-sets f 0 w ∙ n)
      (ap little_endian (field_at src f (start + 20 + z) 2 k (omega arith))) ec)

  -- the checksum of the size
  abbrev size_crc : ℕ
  size_crc = checksum (part src (start + 16) 4)

  data_on : (z : ℕ) (f : List ℕ) → length f ≡ 4 → On bare src (inside 20 z size_crc f) (ask_section_data src (part_of g) start next z)
  unfolding ask_section_data span section_computed crc_of
  data_on z f n = split (eqb z 0) refl
    where
      split : (b : Bool) → eqb z 0 ≡ b
          → On bare src (inside 20 z size_crc f) (span src (start + 20) z (payload (part_of g)) (go (payload (part_of g)) (ask_crc z)))
      split true t = let o : z ≡ 0 = eqb-true z 0 t in rw o (crc_on 0 size_crc f n refl)
      split false t =
          phase_on bare src {t = go (payload (part_of g)) (ask_crc z)} (data_phase s g isg sound z size_crc f) (omega (arith, eqb-false z 0 t)) λ k q.
          let e : length (part src (start + 20) z) ≡ z = length_part src (start + 20) z (omega arith) in
          let x : start + 16 + 4 ≡ start + 20 = omega arith in
          rw e (lands_go bare src (crc_on z (crc_of size_crc (part src (start + 20) z)) f n (rw x at (crc_at src seed (start + 16) 4 z))))

  size_lands : (d c : ℕ) (f field : List ℕ) (z : ℕ) → length field ≡ 4
      → Land src (settle_section_size (inside d 0 c f) size_crc field z) (section_size_turn src (part_of g) start total next z)
  unfolding settle_section_size section_size_turn
  size_lands d c f field z n =
      land_if src (eqb (frame + z) total) (λ t. lands_go bare src (data_on z field n))
      λ t. land_fell src (inside d 0 c f) (fault.SectionSize (part_number (part_of g)))

  -- what is asked for behind the start sentinel
  abbrev ask_size : Account
  ask_size = span src (start + 16) 4 framing (section_size_turn src (part_of g) start total next (section_size src start))

  size_on : (f : List ℕ) → length f ≡ 4 → On bare src (inside 16 0 seed f) ask_size
  unfolding section_size crc_of
  size_on f n =
      phase_on bare src {t = section_size_turn src (part_of g) start total next (section_size src start)} (size_phase s g isg sound f) (omega arith) λ k q.
      let w : List ℕ = part src (start + 16) 4 in
      let e : sets f 0 (part src (start + 16) 4) ≡ part src (start + 16) 4 =
      sym (take_all 4 (sets f 0 w) (omega (arith, length-sets f 0 w))) ∙ field_at src f (start + 16) 4 k (omega arith) in
      rw e (size_lands (16 + length q) (crc_of seed q) (sets f 0 q) w (little_endian w) (length_part src (start + 16) 4 (omega arith)))

  start_on : (c : ℕ) (f : List ℕ) → length f ≡ 4
      → On bare src (inside 0 0 c f) (spell src start (start_sentinel (part_of g)) (fault.SectionSentinel (part_number (part_of g))) (go framing ask_size))
  start_on c f n =
      let m : length (start_sentinel (part_of g)) ≡ 16 = length-start (is_section isg) in
      spelled_on bare src (start_spelled s g isg sound c f) (omega arith) λ k d. lands_go bare src (size_on f n)

-- ---- entered

pub section_on : (src : List ℕ) (s : FlatWalker) (g : Stage) → InSection g → s.failure ≡ None → length s.field ≡ 4 → (next : Account)
    → ((done size crc : ℕ) (field : List ℕ) → length field ≡ 4 → On bare src (enter_next g (in_unit s g done size crc field)) next)
    → On bare src (enter_section s g)
    (ask_section src (part_of g) (locator_of s.header (part_number (part_of g))).offset (locator_of s.header (part_number (part_of g))).size next)
unfolding enter_section ask_section
section_on src s g isg sound n next after =
    on_if src (leb frame (locator_of s.header (part_number (part_of g))).size) (λ t. start_on src s g isg sound next after s.crc s.field n)
    λ t. on_failing src (in_unit s g 0 0 s.crc s.field) (fault.SectionSize (part_number (part_of g)))
