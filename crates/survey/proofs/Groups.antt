-- Laws of a delta's bytes: how far it goes, and the number that its groups make.
use Prim.Native.Nat.{ℕ, zero, suc, ◌+◌, ◌*◌, ◌/◌, ◌%◌, ◌^◌, ◌≤◌, ◌<◌}
use mathlib.Core.Bool.{Bool, true, false}
use mathlib.Core.List.{List, [], ◌∷◌, reverse}
use mathlib.Core.Option.{none, some}
use mathlib.Core.Option as rules
use mathlib.Core.Path.{◌≡◌, refl, ap, ◌∙◌}
use native.Mathlib.Omega.{arith}
use lib.ListN.{length, take, get_or, length-take}
use lib.Seq.{take-take}
use native.Mathlib.Nat.{pow-succ', pow-le-pow_right, mul-le-mul_left}
use lib.Dec.{ltb, eqb}
use borrow.Author.Tests.{lt-ltb, le-ltb, ltb-true, ltb-false}
use Rattle.std.specs.Prelude.{Some, None, option_map, position, fold, cond, nat_lt}
use Rattle.std.specs.List.{position_or_len}
use Rattle.std.proofs.lemmas.Grind.{reverse_onto}
use Rattle.std.proofs.lemmas.List.Sums.{fold_push}
use Rattle.streaming.specs.Choose.{when◌then◌else◌}
use Rattle.streaming.proofs.Choose.{in_both}
use Rattle.rules.specs.Entry.{before, groups_of, delta_in, handle_delta, magnitude, is_back}
use Rattle.rules.proofs.Entry.{Short, groups_short}
use Rattle.survey.specs.Entries.{groups_read, groups_then}

-- ---- how far a delta goes: up to the first byte whose high bit is clear

abbrev pub is_last : ℕ → Bool
is_last b = nat_lt b 0x80

longer_read : (b : ℕ) (o : rules.Option (List ℕ)) → groups_read (before b o) ≡ option_map suc (groups_read o)
longer_read b none = refl
longer_read b (some gs) = refl

further : (n m : ℕ) → option_map suc (option_map suc (cond (nat_lt n m) (Some n) None)) ≡ option_map suc (cond (nat_lt (1 + n) (suc m)) (Some (1 + n)) None)
further n m = split (ltb n m) refl
  where
    split : (d : Bool) → ltb n m ≡ d → option_map suc (option_map suc (cond (nat_lt n m) (Some n) None)) ≡ option_map suc (cond (nat_lt (1 + n) (suc m)) (Some (1 + n)) None)
    split true e = let one : suc n ≡ 1 + n = omega arith in let less : 1 + n < suc m = omega (arith, ltb-true n m e) in rw (e, lt-ltb (1 + n) (suc m) less) (ap (λ (k : ℕ). Some (suc k)) one)
    split false e = let more : suc m ≤ 1 + n = omega (arith, ltb-false n m e) in rw (e, le-ltb (1 + n) (suc m) more)

pub position_groups : (bytes : List ℕ) → groups_read (groups_of bytes) ≡ option_map suc (position is_last bytes)
unfolding groups_of when◌then◌else◌
position_groups [] = refl
position_groups (b ∷ bs) = split (ltb b 0x80) refl (position_groups bs)
  where
    split : (d : Bool) → ltb b 0x80 ≡ d → groups_read (groups_of bs) ≡ option_map suc (position is_last bs) → groups_read (groups_of (b ∷ bs)) ≡ option_map suc (position is_last (b ∷ bs))
    split true e p = let some_byte : 0 < suc (length bs) = omega arith in rw e (rw (lt-ltb 0 (suc (length bs)) some_byte))
    split false e p = rw e (longer_read b (groups_of bs) ∙ ap (option_map suc) p ∙ further (position_or_len is_last bs) (length bs))

-- ---- a delta is the front of what it is read from

abbrev Front : List ℕ → rules.Option (List ℕ) → Type 0
Front bytes none = Unit {0}
Front bytes (some gs) = gs ≡ take (length gs) bytes

groups_front : (bytes : List ℕ) → Front bytes (groups_of bytes)
unfolding groups_of
groups_front [] = tt
groups_front (b ∷ bs) = in_both (Front (b ∷ bs)) (ltb b 0x80) (λ e. refl) (λ e. longer (groups_of bs) (groups_front bs))
  where
    longer : (o : rules.Option (List ℕ)) → Front bs o → Front (b ∷ bs) (before b o)
    longer none f = tt
    longer (some gs) f = ap (λ (t : List ℕ). b ∷ t) f

-- what is known of a whole delta of n bytes
pub record Whole (bytes : List ℕ) (n : ℕ) : Type 0 where
  pub read : delta_in bytes ≡ some (take n bytes)
  pub some_bytes : 1 ≤ n
  pub nine : n ≤ 9
  pub inside : n ≤ length bytes

pub whole_read : (bytes : List ℕ) (n : ℕ) → groups_read (delta_in bytes) ≡ Some n → Whole bytes n
whole_read bytes n e = told (delta_in bytes) refl e (groups_front (take 9 bytes)) (groups_short (take 9 bytes))
  where
    told : (o : rules.Option (List ℕ)) → delta_in bytes ≡ o → groups_read o ≡ Some n → Front (take 9 bytes) o → Short (length (take 9 bytes)) o → Whole bytes n
    told none d e f s = cc
    told (some gs) d e f s =
        let m : n ≡ length gs = cc in
        let l : length gs ≤ 9 = omega (arith, s.1, length-take 9 bytes) in
        record {
          read = d ∙ ap (λ (l : List ℕ). some l) (f ∙ rw m (take-take (length gs) 9 bytes l));
          some_bytes = omega (arith, s.0);
          nine = omega arith;
          inside = omega (arith, s.1, length-take 9 bytes);
        }

pub unending_read : (bytes : List ℕ) → groups_read (delta_in bytes) ≡ None → delta_in bytes ≡ none
unending_read bytes e = told (delta_in bytes) e
  where
    told : (o : rules.Option (List ℕ)) → groups_read o ≡ None → o ≡ none
    told none e = refl
    told (some gs) e = cc

-- ---- the number of some groups

module _ (last : ℕ) where
  -- seven bits more for each group
  pub groups_below : (bytes : List ℕ) → groups_then bytes last < (last + 1) * 0x80 ^ length bytes
  unfolding groups_then
  groups_below [] = omega arith
  groups_below (b ∷ bs) = rw (pow-succ' 0x80 (length bs)) (omega (arith, groups_below bs))

  -- of k groups at most
  pub nine_room : (bytes : List ℕ) (k : ℕ) → length bytes ≤ k → (last + 1) * 0x80 ^ k ≤ 2 ^ 63 → (last + 1) * 0x80 ^ length bytes ≤ 2 ^ 63
  nine_room bytes k h room = omega (arith, mul-le-mul_left (last + 1) (pow-le-pow_right {n = 0x80} (omega arith) h))

small-pushed : (value b : ℕ) → 0x80 * value + 0x80 ≤ 2 ^ 63 → (value * 0x80 % 2 ^ 64 + b % 0x80) % 2 ^ 64 ≡ b % 0x80 + 0x80 * value
small-pushed value b room = omega arith

-- the groups from the last on, in 64 bits that hold them all
abbrev pub pushed : (value b : ℕ) → ℕ
pushed value b = (value * 0x80 % 2 ^ 64 + b % 0x80) % 2 ^ 64

pub folded_groups : (last : ℕ) (bytes : List ℕ) → (last + 1) * 0x80 ^ length bytes ≤ 2 ^ 63 → fold pushed last (reverse bytes) ≡ groups_then bytes last
unfolding groups_then
folded_groups last [] room = refl
folded_groups last (b ∷ bs) room =
    let more : (last + 1) * 0x80 ^ length (b ∷ bs) ≡ 0x80 * ((last + 1) * 0x80 ^ length bs) = rw (pow-succ' 0x80 (length bs)) (omega arith) in
    let before : fold pushed last (reverse bs) ≡ groups_then bs last = folded_groups last bs (omega arith) in
    rw (reverse_onto bs b []) (fold_push pushed last (reverse bs) b ∙ rw before (small-pushed (groups_then bs last) b (omega (arith, groups_below last bs))))

pub handle_groups : (bytes : List ℕ) → groups_then bytes 0 ≡ handle_delta bytes
unfolding groups_then handle_delta
handle_groups [] = refl
handle_groups (b ∷ bs) = rw (handle_groups bs)

pub magnitude_groups : (bytes : List ℕ) (k : ℕ) → length bytes ≡ suc k → groups_then (take k bytes) (get_or bytes k 0 % 0x40) ≡ magnitude bytes
unfolding groups_then magnitude
magnitude_groups [] k e = absurd (omega arith)
magnitude_groups (b ∷ []) zero e = refl
magnitude_groups (b ∷ []) (suc k) e = absurd (omega arith)
magnitude_groups (b ∷ c ∷ bs) zero e = absurd (omega arith)
magnitude_groups (b ∷ c ∷ bs) (suc k) e = rw (magnitude_groups (c ∷ bs) k (omega arith))

pub back_last : (bytes : List ℕ) (k : ℕ) → length bytes ≡ suc k → eqb (get_or bytes k 0 / 0x40 % 2) 1 ≡ is_back bytes
unfolding is_back
back_last [] k e = absurd (omega arith)
back_last (b ∷ []) zero e = refl
back_last (b ∷ []) (suc k) e = absurd (omega arith)
back_last (b ∷ c ∷ bs) zero e = absurd (omega arith)
back_last (b ∷ c ∷ bs) (suc k) e = back_last (c ∷ bs) k (omega arith)
