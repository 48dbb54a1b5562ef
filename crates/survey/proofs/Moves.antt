-- Laws of an entry: which way its location goes, and what it comes to by its two deltas.
use Prim.Native.Nat.{ℕ, zero, suc, ◌+◌, ◌-◌, ◌^◌, ◌≤◌, ◌<◌}
use mathlib.Core.Bool.{Bool, true, false, ◌&&◌, and-false}
use mathlib.Core.Option.{Option, none, some}
use Rattle.std.specs.Prelude.{Some, None, Ok, Err, SomeIff}
use Rattle.std.specs.Prelude as sub
use Rattle.std.specs.Bool.{then_some}
use mathlib.Core.List.{List}
use mathlib.Core.Path.{◌≡◌, refl}
use native.Mathlib.Omega.{arith}
use lib.ListN.{length, take, drop}
use lib.Seq.{length-take-le}
use lib.Dec.{ltb, leb}
use borrow.Author.Tests.{lt-ltb, le-ltb, leb-true, leb-false}
use Rattle.streaming.specs.Choose.{when◌then◌else◌}
use Rattle.rules.specs.Entry.{delta_in, handle_delta, magnitude, is_back, ahead, back, signed, location_delta, moved}
use Rattle.rules.specs.Entry.{refused, entry_at, with_location, with_handle, entry_in}
use Rattle.survey.specs.Entries.{entry_read, moved_to}
use Rattle.survey.proofs.Groups.{Whole}

pub signed_back : (b : Bool) (n : ℕ) → (b && ltb 0 n) ≡ true → signed b n ≡ back n
signed_back true zero e = cc
signed_back true (suc n) e = refl
signed_back false n e = cc

pub signed_ahead : (b : Bool) (n : ℕ) → (b && ltb 0 n) ≡ false → signed b n ≡ ahead n
signed_ahead true zero e = refl
signed_ahead true (suc n) e = absurd (let z : ◌≡◌ {A = ℕ} 0 1 = cc (lt-ltb 0 (suc n) (omega arith)) in omega arith)
signed_ahead false n e = refl

module _ (b : Bool) (location value : ℕ) where
  pub moves_back : (b && ltb 0 value) ≡ true → (o : sub.Option ℕ) → SomeIff o (value ≤ location) (location - value) → o ≡ moved_to (moved location (signed b value))
  unfolding moved when◌then◌else◌
  moves_back e None i = let k : location < value = omega (arith, i) in rw (signed_back b value e, lt-ltb location value k)
  moves_back e (Some to) i = rw (signed_back b value e, le-ltb location value i.0, i.1)

  pub moves_far : (b && ltb 0 value) ≡ false → 2 ^ 63 ≤ location + value → None ≡ moved_to (moved location (signed b value))
  unfolding moved when◌then◌else◌
  moves_far e k = rw (signed_ahead b value e, le-ltb (location + value) (2 ^ 63) k)

  pub moves_ahead : (b && ltb 0 value) ≡ false → then_some (leb (location + value) (2 ^ 63 - 1)) (location + value) ≡ moved_to (moved location (signed b value))
  unfolding moved when◌then◌else◌
  moves_ahead e = rw (signed_ahead b value e) (split (leb (location + value) (2 ^ 63 - 1)) refl)
    where
      split : (d : Bool) → leb (location + value) (2 ^ 63 - 1) ≡ d
          → then_some (leb (location + value) (2 ^ 63 - 1)) (location + value) ≡ moved_to (when ltb (location + value) (2 ^ 63) then some (location + value) else none)
      split true t = let near : location + value < 2 ^ 63 = omega (arith, leb-true _ _ t) in rw (t, lt-ltb _ _ near)
      split false t = let far : 2 ^ 63 ≤ location + value = omega (arith, leb-false _ _ t) in rw (t, le-ltb _ _ far)

moved-some : (o : Option ℕ) (to : ℕ) → moved_to o ≡ Some to → o ≡ some to
moved-some none to e = cc
moved-some (some at) to e = cc

moved-none : (o : Option ℕ) → moved_to o ≡ None → o ≡ none
moved-none none e = refl
moved-none (some at) e = cc

-- ---- an entry whose location delta is whole: it leads somewhere, or is refused

module _ (n m handle location value : ℕ) (back : Bool) (bytes : List ℕ) (w : Whole bytes m)
    (is-value : value ≡ magnitude (take m bytes)) (is-back : back ≡ is_back (take m bytes)) where
  located : with_location n handle location bytes (delta_in bytes) ≡ entry_at (n + m) handle (moved location (signed back value))
  unfolding with_location location_delta
  located = rw (w.read, length-take-le m bytes w.inside, is-value, is-back)

  pub location-leads : (to : ℕ) → moved_to (moved location (signed back value)) ≡ Some to
      → Ok (record { bytes = n + m; to = record { handle = handle; location = to } }) ≡ entry_read (with_location n handle location bytes (delta_in bytes))
  unfolding entry_at
  location-leads to e = rw (located, moved-some (moved location (signed back value)) to e)

  pub location_stays : moved_to (moved location (signed back value)) ≡ None
      → Err (n + m) ≡ entry_read (with_location n handle location bytes (delta_in bytes))
  unfolding entry_at
  location_stays e = rw (located, moved-none (moved location (signed back value)) e)

-- ---- an entry whose handle delta is whole: the chunk ends behind it, the sum does not fit, or the location follows

module _ (n handle location value : ℕ) (bytes : List ℕ) (w : Whole bytes n) (is-value : value ≡ handle_delta (take n bytes)) where
  handled : entry_in handle location bytes
      ≡ when ltb n (length bytes) && ltb (handle + value) (2 ^ 64) then with_location n (handle + value) location (drop n bytes) (delta_in (drop n bytes)) else refused n
  unfolding with_handle
  handled = rw (w.read, length-take-le n bytes w.inside, is-value)

  pub handle-ends : length bytes ≤ n → Err n ≡ entry_read (entry_in handle location bytes)
  unfolding when◌then◌else◌
  handle-ends h = rw (handled, le-ltb n (length bytes) h)

  pub handle_past : 2 ^ 64 ≤ handle + value → Err n ≡ entry_read (entry_in handle location bytes)
  unfolding when◌then◌else◌
  handle_past h = rw (handled, le-ltb (handle + value) (2 ^ 64) h, and-false (ltb n (length bytes)))

  pub handle-leads : n < length bytes → handle + value < 2 ^ 64
      → entry_in handle location bytes ≡ with_location n (handle + value) location (drop n bytes) (delta_in (drop n bytes))
  unfolding when◌then◌else◌
  handle-leads h k = rw (handled, lt-ltb n (length bytes) h, lt-ltb (handle + value) (2 ^ 64) k)
