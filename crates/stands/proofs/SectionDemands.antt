-- Each demand of a section, told once: the start sentinel, the size, the data, the checksum, the end sentinel. Short names: d bytes are done, z is the
-- size, c the checksum so far, f the field.
use Rattle.std.specs.Prelude.{Ok, Some, None}
use Prim.Native.Nat.{ℕ, zero, suc, ◌+◌, ◌-◌, ◌≤◌, ◌<◌}
use mathlib.Core.List.{List, ◌++◌}
use mathlib.Core.Path.{◌≡◌, refl, ap, ap₂, ◌∙◌}
use native.Mathlib.Omega.{arith}
use lib.ListN.{length, take, length-append}
use lib.Seq.{sets}
use lib.Dec.{eqb}
use borrow.Author.Tests.{lt-ltb, le-ltb}
use Rattle.crc.specs.Crc.{crc_of}
use Rattle.crc.proofs.Laws.{crc_append}
use Rattle.octets.specs.Octets.{little_endian}
use Rattle.octets.proofs.Sets.{sets-append}
use Rattle.octets.proofs.Sameness.{eq_same, ne_same}
use Rattle.streaming.specs.Choose.{when◌then◌else◌}
use Rattle.streaming.specs.Numbers.{part_number}
use Rattle.streaming.specs.State.{in_unit, failing}
use Rattle.streaming.specs.declared.Fault.{Fault}
use Rattle.streaming.specs.declared.Fault.TheVariants as fault
use Rattle.streaming.specs.declared.Stage.{Stage}
use Rattle.streaming.specs.declared.Stage.TheVariants as stage
use Rattle.streaming.specs.declared.FlatWalker.{FlatWalker}
use Rattle.account.specs.Account.{demand, framing, payload}
use Rattle.account.specs.Statement.{part}
use Rattle.account.proofs.Walks.{Phase, Spelled}
use Rattle.rules.specs.Bytes.{seed}
use Rattle.rules.specs.Header.{locator_of}
use Rattle.rules.specs.Section.{start_sentinel, end_sentinel}
use Rattle.rules.proofs.Section.{IsSection, length-start, length_end}
use Rattle.section.specs.Section.{part_of, section_end, request_section, settle_section_size, settle_section_crc, settle_section}
use Rattle.section.specs.Section.{feed_section_start, feed_section_size, feed_section_data, feed_section_crc, feed_section_end, feed_section}
use Rattle.flat.specs.Flat.{request_at, feed_at}
use Rattle.stands.proofs.Bare.{bare_request, bare_feed, outcome, bare, failing_asks}
use Rattle.stands.proofs.Landing.{eqb_alike, outcome_if, if_alike, if_last}

-- ---- the stages that are sections

pub data InSection : Stage → Type 0 where
  vars : InSection stage.Vars
  classes : InSection stage.Classes

pub is_section : {g : Stage} → InSection g → IsSection (part_of g)
is_section vars = IsSection.vars
is_section classes = IsSection.classes

requests : {g : Stage} → InSection g → (s : FlatWalker) → request_at g s ≡ Ok (Some (request_section s))
requests vars s = refl
requests classes s = refl

feeds : {g : Stage} → InSection g → (s : FlatWalker) (p : List ℕ) → feed_at g s p ≡ feed_section s p
feeds vars s p = refl
feeds classes s p = refl

-- ---- where its demands end

module _ (d z : ℕ) where
  end_start : d < 16 → section_end d z ≡ 16
  unfolding section_end when◌then◌else◌
  end_start h = rw (lt-ltb d 16 h)

  end_size : 16 ≤ d → d < 20 → section_end d z ≡ 20
  unfolding section_end when◌then◌else◌
  end_size h k = rw (le-ltb d 16 h, lt-ltb d 20 k)

  end_data : 20 ≤ d → d < 20 + z → section_end d z ≡ 20 + z
  unfolding section_end when◌then◌else◌
  end_data h k = rw (le-ltb d 16 (omega arith), le-ltb d 20 h, lt-ltb d (20 + z) k)

  end_crc : 20 + z ≤ d → d < 22 + z → section_end d z ≡ 22 + z
  unfolding section_end when◌then◌else◌
  end_crc h k = rw (le-ltb d 16 (omega arith), le-ltb d 20 (omega arith), le-ltb d (20 + z) h, lt-ltb d (22 + z) k)

  end_end : 22 + z ≤ d → section_end d z ≡ 38 + z
  unfolding section_end when◌then◌else◌
  end_end h = rw (le-ltb d 16 (omega arith), le-ltb d 20 (omega arith), le-ltb d (20 + z) (omega arith), le-ltb d (22 + z) h)

-- ---- each demand

-- the checksum so far, behind d bytes of the start sentinel: its first piece sets it going
abbrev start_crc : ℕ → ℕ → ℕ
start_crc c zero = c
start_crc c (suc d) = seed

set_going : (c d : ℕ) → 0 < d → start_crc c d ≡ seed
set_going c zero h = absurd (omega arith)
set_going c (suc d) h = refl

module _ (s : FlatWalker) (g : Stage) (isg : InSection g) (sound : s.failure ≡ None) where
  abbrev offset : ℕ
  offset = (locator_of s.header (part_number (part_of g))).offset

  abbrev inside : (done size crc : ℕ) (field : List ℕ) → FlatWalker
  inside = in_unit s g

  abbrev wrong : Fault
  wrong = fault.SectionSentinel (part_number (part_of g))

  asks : (d z c : ℕ) (f : List ℕ) (at left : ℕ) → offset + d ≡ at → section_end d z ≡ d + left → bare_request (inside d z c f) ≡ demand at left
  unfolding bare_request request_section
  asks d z c f at left e k = rw sound (requests isg _ ∙ ap₂ demand e (omega (arith, k)))

  fed : (d z c : ℕ) (f p : List ℕ) → bare_feed (inside d z c f) p ≡ outcome (feed_section (inside d z c f) p)
  unfolding bare_feed
  fed d z c f p = ap outcome (feeds isg (inside d z c f) p)

  pub start_spelled : (c : ℕ) (f : List ℕ) → Spelled bare offset (start_sentinel (part_of g)) wrong (λ d. inside d 0 (start_crc c d) f)
      (λ d. failing (inside d 0 (start_crc c d) f) wrong) (λ d. (framing, inside 16 0 seed f))
  unfolding feed_section feed_section_start when◌then◌else◌
  start_spelled c f =
      let n : length (start_sentinel (part_of g)) ≡ 16 = length-start (is_section isg) in
      record {
        asking = λ d l. rw n (asks d 0 _ f _ _ refl (omega (arith, end_start d 0 (omega arith))));
        taking = λ d p a l e. fed d 0 _ f p
            ∙ rw (lt-ltb d 16 (omega arith), eq_same p (part (start_sentinel (part_of g)) d (length p)) e, n, set_going c (d + length p) (omega arith))
            (if_last (λ k. (framing, inside k 0 seed f)) (d + length p) 16);
        tearing = λ d p a l e. fed d 0 _ f p ∙ rw (lt-ltb d 16 (omega arith), ne_same p (part (start_sentinel (part_of g)) d (length p)) e);
        broke = λ d. failing_asks (inside d 0 (start_crc c d) f) wrong;
      }

  pub size_phase : (f : List ℕ) → Phase bare (offset + 16) 4 framing (λ q. inside (16 + length q) 0 (crc_of seed q) (sets f 0 q))
      (λ q w. outcome (settle_section_size (inside (16 + length q) 0 (crc_of seed q) (sets f 0 q)) (crc_of seed w) (sets f 0 w) (little_endian (sets f 0 w))))
  unfolding feed_section feed_section_size when◌then◌else◌
  size_phase f =
      record {
        asking = λ q l. asks (16 + length q) 0 _ _ _ _ (omega arith) (omega (arith, end_size (16 + length q) 0 (omega arith) (omega arith)));
        taking = λ q p a b.
            let x : 16 + length q + length p ≡ 16 + length (q ++ p) = omega (arith, length-append q p) in
            let y : 16 + length q - 16 ≡ 0 + length q = omega arith in
            fed (16 + length q) 0 _ _ p
            ∙ rw (
              le-ltb (16 + length q) 16 (omega arith),
              lt-ltb (16 + length q) 20 (omega arith),
              y,
              sets-append f 0 q p,
              ← crc_append seed q p,
              x,
              eqb_alike (16 + length (q ++ p)) 20 (length q + length p) 4 (λ v. omega arith) (λ v. omega arith),
            )
            (outcome_if (eqb (length q + length p) 4) _ _);
      }

  pub data_phase : (z c : ℕ) (f : List ℕ) → Phase bare (offset + 20) z (payload (part_of g)) (λ q. inside (20 + length q) z (crc_of c q) f)
      (λ q w. (payload (part_of g), inside (20 + length w) z (crc_of c w) f))
  unfolding feed_section feed_section_data when◌then◌else◌
  data_phase z c f =
      record {
        asking = λ q l. asks (20 + length q) z _ f _ _ (omega arith) (omega (arith, end_data (20 + length q) z (omega arith) (omega arith)));
        taking = λ q p a b.
            let x : 20 + length q + length p ≡ 20 + length (q ++ p) = omega (arith, length-append q p) in
            fed (20 + length q) z _ f p
            ∙ rw (
              le-ltb (20 + length q) 16 (omega arith),
              le-ltb (20 + length q) 20 (omega arith),
              lt-ltb (20 + length q) (20 + z) (omega arith),
              ← crc_append c q p,
              x,
            )
            (if_alike (eqb (length q + length p) z) (payload (part_of g), inside (20 + length (q ++ p)) z (crc_of c (q ++ p)) f));
      }

  pub crc_phase : (z c : ℕ) (f : List ℕ) → Phase bare (offset + 20 + z) 2 framing (λ q. inside (20 + z + length q) z c (sets f 0 q))
      (λ q w. outcome (settle_section_crc (inside (20 + z + length q) z c (sets f 0 q)) (sets f 0 w) (little_endian (take 2 (sets f 0 w)))))
  unfolding feed_section feed_section_crc when◌then◌else◌
  crc_phase z c f =
      record {
        asking = λ q l. asks (20 + z + length q) z c _ _ _ (omega arith) (omega (arith, end_crc (20 + z + length q) z (omega arith) (omega arith)));
        taking = λ q p a b.
            let x : 20 + z + length q + length p ≡ 20 + z + length (q ++ p) = omega (arith, length-append q p) in
            let y : 20 + z + length q - (20 + z) ≡ 0 + length q = omega arith in
            fed (20 + z + length q) z c _ p
            ∙ rw (
              le-ltb (20 + z + length q) 16 (omega arith),
              le-ltb (20 + z + length q) 20 (omega arith),
              le-ltb (20 + z + length q) (20 + z) (omega arith),
              lt-ltb (20 + z + length q) (22 + z) (omega arith),
              y,
              sets-append f 0 q p,
              x,
              eqb_alike (20 + z + length (q ++ p)) (22 + z) (length q + length p) 2 (λ v. omega arith) (λ v. omega arith),
            )
            (outcome_if (eqb (length q + length p) 2) _ _);
      }

  feed_end : (d z c : ℕ) (f p : List ℕ) → 22 + z ≤ d → bare_feed (inside d z c f) p ≡ outcome (feed_section_end (inside d z c f) p)
  unfolding feed_section when◌then◌else◌
  feed_end d z c f p h =
      fed d z c f p ∙ rw (le-ltb d 16 (omega arith), le-ltb d 20 (omega arith), le-ltb d (20 + z) (omega arith), le-ltb d (22 + z) h)

  pub end_spelled : (z c : ℕ) (f : List ℕ) → Spelled bare (offset + 22 + z) (end_sentinel (part_of g)) wrong (λ d. inside (22 + z + d) z c f)
      (λ d. failing (inside (22 + z + d) z c f) wrong) (λ d. outcome (settle_section (inside (22 + z + d) z c f)))
  unfolding feed_section_end when◌then◌else◌
  end_spelled z c f =
      let n : length (end_sentinel (part_of g)) ≡ 16 = length_end (is_section isg) in
      record {
        asking = λ d l. rw n (asks (22 + z + d) z c f _ _ (omega arith) (omega (arith, end_end (22 + z + d) z (omega arith))));
        taking = λ d p a l e.
            let x : 22 + z + d + length p ≡ 22 + z + (d + length p) = omega arith in
            let y : 22 + z + d - (22 + z) ≡ d = omega arith in
            feed_end (22 + z + d) z c f p (omega arith)
            ∙ rw (
              y,
              eq_same p (part (end_sentinel (part_of g)) d (length p)) e,
              x,
              eqb_alike (22 + z + (d + length p)) (38 + z) (d + length p) (length (end_sentinel (part_of g))) (λ v. omega arith) (λ v. omega arith),
            )
            (outcome_if (eqb (d + length p) (length (end_sentinel (part_of g)))) _ _);
        tearing = λ d p a l e.
            let y : 22 + z + d - (22 + z) ≡ d = omega arith in
            feed_end (22 + z + d) z c f p (omega arith) ∙ rw (y, ne_same p (part (end_sentinel (part_of g)) d (length p)) e);
        broke = λ d. failing_asks (inside (22 + z + d) z c f) wrong;
      }
