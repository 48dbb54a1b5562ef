-- The machine goes through a delta of the map byte by byte: what its bytes lead to is what the rules read from them all.
use Rattle.std.specs.Prelude.{None}
use Prim.Native.Nat.{ℕ, zero, suc, ◌+◌, ◌*◌, ◌-◌, ◌%◌, ◌^◌, min, ◌≤◌, ◌<◌}
use mathlib.Core.Bool.{Bool, true, false}
use mathlib.Core.List.{List, [], ◌∷◌, ◌++◌}
use mathlib.Core.Option.{Option, none, some}
use mathlib.Core.Path.{◌≡◌, refl, ap, ap₂, ◌∙◌}
use native.Mathlib.Omega.{arith}
use native.Mathlib.Numerals.{add-one}
use native.Mathlib.Nat.{mul-le-mul_left}
use lib.ListN.{length, take, get_or}
use lib.Dec.{ltb, leb, eqb}
use lib.Bits.{bit_or, or_shifted_r}
use lib.Seq.{take-nil}
use lib.Pow.{pow-add}
use borrow.Author.Tests.{ltb-true, ltb-false, lt-ltb, le-leb, lt-leb, eq-eqb, ne_eqb}
use Rattle.streaming.specs.Choose.{when◌then◌else◌}
use Rattle.streaming.specs.State.{with_map, at_entry, fell}
use Rattle.streaming.specs.declared.Fault.TheVariants as fault
use Rattle.streaming.specs.declared.Stage.{Stage}
use Rattle.streaming.specs.declared.Stage.TheVariants as stage
use Rattle.streaming.specs.Answers.{Failure}
use Rattle.streaming.specs.declared.FlatWalker.{FlatWalker}
use Rattle.streaming.specs.declared.Fed.{Fed}
use Rattle.streaming.proofs.Choose.{in_both}
use Rattle.account.specs.Account.{demand, framing}
use Rattle.account.specs.Asking.{Turn, bad, one_by_one}
use Rattle.account.specs.Statement.{part}
use Rattle.account.proofs.Demands.{one_span, one_add}
use Rattle.account.proofs.Parts.{part_cons}
use Rattle.account.proofs.Walks.{Phase, On, lands_go, phase_on}
use Rattle.rules.specs.Entry.{before, groups_of, delta_in, handle_delta, magnitude, is_back, signed, moved}
use Rattle.rules.proofs.Entry.{Short, groups_short, back_more}
use Rattle.entry.specs.Entry.{request_entry, bits_of, moved_by, settle_location, settle_handle, more_groups, settle_group, feed_entry}
use Rattle.flat.specs.Flat.{request_at, feed_at}
use Rattle.stands.proofs.Bare.{bare_in, bare_request, bare_feed, outcome, bare}
use Rattle.stands.proofs.Landing.{Land, land_fell}

-- ---- one group more

group_sum : (shift mc bits : ℕ) → mc < 2 ^ shift → bit_or mc (bits * 2 ^ shift) ≡ mc + 2 ^ shift * bits
group_sum shift mc bits h = or_shifted_r bits shift mc h ∙ omega arith

group_below : (shift mc b : ℕ) → mc < 2 ^ shift → mc + 2 ^ shift * (b % 0x80) < 2 ^ (shift + 7)
group_below shift mc b h =
    let m : 2 ^ shift * (b % 0x80) ≤ 2 ^ shift * 0x7f = mul-le-mul_left (2 ^ shift) (omega arith) in
    omega (arith, m, pow-add 2 shift 7)

group_more : (shift mc bits rest : ℕ) → mc + 2 ^ shift * bits + 2 ^ (shift + 7) * rest ≡ mc + 2 ^ shift * (bits + 0x80 * rest)
group_more shift mc bits rest = rw pow-add (omega arith)

-- ---- the delta of an entry: field 0 is its handle's, field 1 its location's

module _ (src : List ℕ) (s : FlatWalker) (chunk len handle loc field : ℕ) where
  -- at one of its bytes
  abbrev in_delta : (at mc shift : ℕ) → FlatWalker
  in_delta at mc shift = with_map s (at_entry chunk len at handle loc mc shift field)

  -- its last byte, by all its groups and what they come to
  abbrev settles : FlatWalker → (groups : List ℕ) (value : ℕ) → Fed
  settles st groups value = when eqb field 0 then settle_handle st value else settle_location st (moved_by (is_back groups) loc value)

  module _ (worth : List ℕ → ℕ) where
    -- From a byte of it on, by the groups that are read from k bytes of the n that are left: where it is whole, its last byte decides;
    -- where it is not, the byte behind the k is refused, or the chunk's last.
    abbrev Told : (k at mc shift n : ℕ) → Option (List ℕ) → Type 0
    Told k at mc shift n none =
        let m = min (suc k) n in On bare src (in_delta at mc shift) (one_by_one src at m (bad (fault.MapEntry (at + m - 1))))
    Told k at mc shift n (some groups) =
        (t : Turn)
        → ((mc' shift' value : ℕ) → value ≡ mc + 2 ^ shift * worth groups
        → Land src (settles (in_delta (at + length groups - 1) mc' shift') groups value) t)
        → On bare src (in_delta at mc shift) (one_by_one src at (length groups) t)

    -- from its first byte on
    abbrev pub Begun : (at n : ℕ) → Option (List ℕ) → Type 0
    Begun at n none = On bare src (in_delta at 0 0) (one_by_one src at (min 10 n) (bad (fault.MapEntry (at + min 10 n - 1))))
    Begun at n (some groups) =
        (t : Turn) → ((mc shift : ℕ) → Land src (settles (in_delta (at + length groups - 1) mc shift) groups (worth groups)) t)
        → On bare src (in_delta at 0 0) (one_by_one src at (length groups) t)

    begun : (at n : ℕ) (o : Option (List ℕ)) → Told 9 at 0 0 n o → Begun at n o
    begun at n none told = told
    begun at n (some groups) told = λ t f. told t λ mc shift value v. let y : value ≡ worth groups = omega arith in rw y (f mc shift)

  module _ (walks : s.stage ≡ stage.Entry) (sound : s.failure ≡ None) (inside : chunk + len ≤ length src) where
    -- ---- a byte

    module _ (at mc shift : ℕ) where
      abbrev here : FlatWalker
      here = in_delta at mc shift

      asks : bare_request here ≡ demand at 1
      unfolding bare_request request_entry
      asks = ap (λ (f : Failure). bare_in f here) sound ∙ ap (λ (g : Stage). request_at g here) walks

      takes : (p : List ℕ) → bare_feed here p ≡ outcome (feed_entry here (get_or p 0 0))
      unfolding bare_feed
      takes p = ap (λ (g : Stage). outcome (feed_at g here p)) walks

      byte_phase : Phase bare at 1 framing (λ q. here) (λ q w. outcome (feed_entry here (get_or w 0 0)))
      unfolding when◌then◌else◌
      byte_phase = record { asking = λ q l. asks ∙ ap₂ demand (omega arith) (omega arith); taking = λ q p a k. takes p ∙ taken q p a k }
        where
          taken : (q p : List ℕ) → 0 < length p → length q + length p ≤ 1
              → outcome (feed_entry here (get_or p 0 0))
              ≡ when eqb (length q + length p) 1 then outcome (feed_entry here (get_or (q ++ p) 0 0)) else (framing, here)
          taken [] p a k = rw (eq-eqb (0 + length p) 1 (omega arith))
          taken (b ∷ q) p a k = absurd (omega arith)

      byte_on : (t : Turn) → Land src (feed_entry here (get_or src at 0)) t → On bare src here (one_by_one src at 1 t)
      byte_on t l = rw (one_span src at t) (phase_on bare src byte_phase (omega arith) λ k q. rw (part_cons src at 0 (omega arith)) l)

      module _ (b : ℕ) where
        tenth_fed : 56 < shift → feed_entry here b ≡ fell (fault.MapEntry at) here
        unfolding feed_entry when◌then◌else◌
        tenth_fed h = rw (lt-leb shift 56 h)

        module _ (h : shift ≤ 56) (m : mc < 2 ^ shift) where
          last_fed : ltb b 0x80 ≡ true → feed_entry here b ≡ settles here (b ∷ []) (mc + 2 ^ shift * bits_of b field)
          unfolding feed_entry settle_group is_back when◌then◌else◌
          last_fed e = rw (le-leb shift 56 h, group_sum shift mc (bits_of b field) m, e)

          more_fed : ltb b 0x80 ≡ false → feed_entry here b ≡ more_groups here (mc + 2 ^ shift * (b % 0x80))
          unfolding feed_entry settle_group bits_of when◌then◌else◌
          more_fed e = rw (le-leb shift 56 h, group_sum shift mc (bits_of b field) m, e)

    -- ---- byte by byte

    module _ (worth : List ℕ → ℕ) (of-last : (b : ℕ) → ltb b 0x80 ≡ true → bits_of b field ≡ worth (b ∷ []))
        (of-more : (b : ℕ) (bs : List ℕ) → 1 ≤ length bs → worth (b ∷ bs) ≡ b % 0x80 + 0x80 * worth bs) where
      -- this byte is refused
      refused-told : (k at mc shift n : ℕ) → min (suc k) n ≡ 1
          → feed_entry (in_delta at mc shift) (get_or src at 0) ≡ fell (fault.MapEntry at) (in_delta at mc shift) → Told worth k at mc shift n none
      refused-told k at mc shift n x e =
          let y : at + 1 - 1 ≡ at = omega arith in rw (x, y) (byte_on at mc shift _ (rw e (land_fell src (in_delta at mc shift) _)))

      module _ (k at mc shift n : ℕ) (h : shift ≤ 56) (m : mc < 2 ^ shift) where
        abbrev b : ℕ
        b = get_or src at 0

        last-told : ltb b 0x80 ≡ true → Told worth k at mc shift n (some (b ∷ []))
        last-told l t f =
            let x : at + 1 - 1 ≡ at = omega arith in
            byte_on at mc shift t (rw (last_fed at mc shift b h m l, of-last b l) (rw x at (f mc shift _ refl)))

        module _ (l : ltb b 0x80 ≡ false) where
          -- the chunk ends in the delta
          used_fed : at + 1 ≡ chunk + len → feed_entry (in_delta at mc shift) b ≡ fell (fault.MapEntry at) (in_delta at mc shift)
          unfolding more_groups when◌then◌else◌
          used_fed w = more_fed at mc shift b h m l ∙ rw (eq-eqb (at + 1) (chunk + len) w)

          -- the delta goes on
          more_on : at + 1 < chunk + len → (n : ℕ) (t : Turn) → 0 < n
              → On bare src (in_delta (at + 1) (mc + 2 ^ shift * (b % 0x80)) (shift + 7)) (one_by_one src (at + 1) n t)
              → On bare src (in_delta at mc shift) (one_by_one src at (suc n) t)
          unfolding more_groups when◌then◌else◌
          more_on w n t z o =
              let x : suc n ≡ 1 + n = omega arith in
              rw (x, one_add src at 1 n t z)
              (byte_on at mc shift _ (rw (more_fed at mc shift b h m l, ne_eqb (at + 1) (chunk + len) (omega arith)) (lands_go bare src o)))

          more-told : (o : Option (List ℕ)) (room : ℕ) → at + 1 + n ≡ chunk + len → 1 ≤ n → Short room o
              → Told worth k (at + 1) (mc + 2 ^ shift * (b % 0x80)) (shift + 7) n o → Told worth (suc k) at mc shift (suc n) (before b o)
          more-told none room w z s told =
              let x : min (suc (suc k)) (suc n) ≡ suc (min (suc k) n) = omega arith in
              let y : at + suc (min (suc k) n) - 1 ≡ at + 1 + min (suc k) n - 1 = omega arith in
              rw (x, y) (more_on (omega arith) _ _ (omega arith) told)
          more-told (some groups) room w z s told = λ t f. more_on (omega arith) _ t (omega (arith, s.0)) (told t
              λ mc' shift' value v.
              let x : at + suc (length groups) - 1 ≡ at + 1 + length groups - 1 = omega arith in
              let y : value ≡ mc + 2 ^ shift * worth (b ∷ groups) = v ∙ rw (of-more b groups s.0) (group_more shift mc (b % 0x80) (worth groups)) in
              rw (back_more b groups s.0, x) at (f mc' shift' value y))

      delta_told : (k at mc shift n : ℕ) → shift + 7 * k ≡ 63 → mc < 2 ^ shift → at + n ≡ chunk + len → 1 ≤ n
          → Told worth k at mc shift n (groups_of (take k (part src at n)))
      unfolding groups_of
      delta_told k at mc shift zero a m w z = absurd (omega arith)
      delta_told zero at mc shift (suc n) a m w z = refused-told 0 at mc shift (suc n) (omega arith) (tenth_fed at mc shift _ (omega arith))
      delta_told (suc k) at mc shift (suc zero) a m w z =
          rw (part_cons src at 0 (omega arith), take-nil {A = ℕ} k)
          (in_both (Told worth (suc k) at mc shift 1) (ltb (get_or src at 0) 0x80) (last-told (suc k) at mc shift 1 (omega arith) m)
          λ l. refused-told (suc k) at mc shift 1 (omega arith) (used_fed k at mc shift 1 (omega arith) m l w))
      delta_told (suc k) at mc shift (suc (suc n)) a m w z =
          let rest : List ℕ = part src (at + 1) (suc n) in
          rw (part_cons src at (suc n) (omega arith), ← add-one at)
          (in_both (Told worth (suc k) at mc shift (suc (suc n))) (ltb (get_or src at 0) 0x80) (last-told (suc k) at mc shift (suc (suc n)) (omega arith) m)
          λ l. more-told k at mc shift (suc n) (omega arith) m l (groups_of (take k rest)) _ (omega arith) (omega arith) (groups_short (take k rest))
          (delta_told k (at + 1) _ (shift + 7) (suc n) (omega arith) (group_below shift mc _ m) (omega arith) (omega arith)))

      pub delta_begun : (at n : ℕ) → at + n ≡ chunk + len → 1 ≤ n → Begun worth at n (delta_in (part src at n))
      delta_begun at n w z = begun worth at n (delta_in (part src at n)) (delta_told 9 at 0 0 n refl (omega arith) w z)

-- ---- what the machine reads is what the rules read

pub handle-last : (b : ℕ) → ltb b 0x80 ≡ true → bits_of b 0 ≡ handle_delta (b ∷ [])
unfolding bits_of handle_delta when◌then◌else◌
handle-last b e = rw e (omega arith)

pub magnitude-last : (b : ℕ) → ltb b 0x80 ≡ true → bits_of b 1 ≡ magnitude (b ∷ [])
unfolding bits_of magnitude when◌then◌else◌
magnitude-last b e = rw e

-- a negative zero is zero
pub moved_alike : (back : Bool) (location n : ℕ) → location < 2 ^ 63 → moved_by back location n ≡ moved location (signed back n)
unfolding moved_by moved when◌then◌else◌
moved_alike false location n h = refl
moved_alike true location zero h = rw (le-leb 0 location (omega arith), lt-ltb (location + 0) (2 ^ 63) (omega arith)) (ap some (omega arith))
moved_alike true location (suc n) h = split (ltb location (suc n)) refl
  where
    split : (b : Bool) → ltb location (suc n) ≡ b
        → (when leb (suc n) location then some (location - suc n) else none) ≡ (when ltb location (suc n) then none else some (location - suc n))
    split true e = rw (e, lt-leb (suc n) location (ltb-true location (suc n) e))
    split false e = rw (e, le-leb (suc n) location (ltb-false location (suc n) e))
