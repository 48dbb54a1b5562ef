-- Laws of a tally behind one more call: field by field, and where the call adds nothing.
use Rattle.std.specs.Prelude.{Option, Some, None}
use Prim.Native.Nat.{ℕ, ◌+◌, ◌<◌, ◌^◌}
use mathlib.Core.Bool.{Bool, true, false}
use mathlib.Core.List.{List, [], ◌∷◌, ◌++◌}
use mathlib.Core.Path.{◌≡◌, refl, sym, ap, ◌∙◌}
use native.Mathlib.Omega.{arith}
use lib.ListN.{length}
use lib.Dec.{eqb}
use mir.Val.{bool_byte}
use Rattle.std.specs.Option.{option_eq}
use Rattle.streaming.specs.Choose.{when◌then◌else◌}
use Rattle.tally.specs.declared.Tally.{Tally}
use Rattle.tally.specs.History.{Taken, not_taken, accepted_bytes, framing_bytes, payload_bytes, repeats}
use Rattle.tally.specs.Tally.{capped, last_of, known, behind}

-- ---- a count that nothing is added to

pub stays : (n : ℕ) → n < 2 ^ 64 → n ≡ capped (n + 0)
stays n h = omega arith

-- without another object there is no repeat, and the last one stays
pub no_repeat : (l : Option ℕ) → repeats (known l ++ []) ≡ 0
unfolding repeats
no_repeat None = refl
no_repeat (Some x) = refl

pub last_stays : (l : Option ℕ) → l ≡ last_of (known l ++ [])
unfolding last_of
last_stays None = refl
last_stays (Some x) = refl

-- what a contract of a call without an object needs
pub ruleset no_object = (no_repeat, last_stays)

pub last_moves : (l : Option ℕ) (handle : ℕ) → Some handle ≡ last_of (known l ++ (handle ∷ []))
unfolding last_of
last_moves None handle = refl
last_moves (Some x) handle = refl

-- the handle of the object just before, compared
pub repeats_told : (l : Option ℕ) (handle : ℕ) → bool_byte (option_eq eqb l (Some handle)) ≡ repeats (known l ++ (handle ∷ []))
unfolding repeats when◌then◌else◌
repeats_told None handle = refl
repeats_told (Some x) handle = split (eqb x handle)
  where
    split : (b : Bool) → bool_byte b ≡ (when b then 1 else 0) + 0
    split true = refl
    split false = refl

pub repeats_stay : (n : ℕ) (l : Option ℕ) → n < 2 ^ 64 → n ≡ capped (n + repeats (known l ++ []))
repeats_stay n l h = stays n h ∙ ap (λ (k : ℕ). capped (n + k)) (sym (no_repeat l))

-- ---- a tally, field by field

module _ (t : Tally) (taken : Taken) (n : ℕ) (handles : List ℕ) where
  pub by_field : (b f p o r : ℕ) (l : Option ℕ) → b ≡ capped (t.bytes + accepted_bytes taken n) → f ≡ capped (t.framing + framing_bytes taken n)
      → p ≡ capped (t.payload + payload_bytes taken n) → o ≡ capped (t.objects + length handles)
      → r ≡ capped (t.repeats + repeats (known t.last ++ handles)) → l ≡ last_of (known t.last ++ handles)
      → ◌≡◌ {A = Tally} (record { bytes = b; framing = f; payload = p; objects = o; repeats = r; last = l }) (behind t taken n handles)
  by_field b f p o r l eb ef ep eo er el = rw (eb, ef, ep, eo, er, el)

-- every count fits its type
pub record Fits (t : Tally) : Type 0 where
  pub bytes : t.bytes < 2 ^ 64
  pub framing : t.framing < 2 ^ 64
  pub payload : t.payload < 2 ^ 64
  pub objects : t.objects < 2 ^ 64
  pub repeats : t.repeats < 2 ^ 64

-- a call that is not taken leaves a tally as it was
pub untaken : (t : Tally) (n : ℕ) → Fits t → t ≡ behind t not_taken n []
untaken t n f =
    by_field t not_taken n [] _ _ _ _ _ _ (stays _ f.bytes) (stays _ f.framing) (stays _ f.payload) (stays _ f.objects)
    (repeats_stay _ t.last f.repeats) (last_stays t.last)
