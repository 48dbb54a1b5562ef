-- The first 16 bytes of an object's data are always enough for its prologue, which has 122 bits at most.
use Prim.Native.Nat.{ℕ, zero, suc, ◌+◌, ◌*◌, ◌/◌, ◌%◌, ◌-◌, ◌^◌, ◌≤◌, ◌<◌}
use mathlib.Core.Bool.{Bool, true, false}
use mathlib.Core.List.{List}
use mathlib.Core.Option.{Option, none}
use mathlib.Core.Path.{◌≡◌, refl, ap, ap₂, ◌∙◌}
use native.Mathlib.Omega.{arith}
use lib.ListN.{length, take, length-take}
use lib.Seq.{get_or-take}
use lib.Dec.{leb}
use borrow.Author.Tests.{leb-true, leb-false, ltb-false, le-leb, lt-leb}
use Rattle.streaming.specs.Choose.{when◌then◌else◌}
use Rattle.rules.specs.Prologue.{Prologue, bit_at, bits_at, reading, reading_handle, behind_type, reading_type, prologue_of}
use Rattle.streaming.proofs.Choose.{choose_alike}

-- two choices of prologues by one test
either_same : (t : Bool) {x y u v : Option Prologue} → (t ≡ true → x ≡ u) → (t ≡ false → y ≡ v) → (when t then x else y) ≡ (when t then u else v)
either_same t p q = choose_alike (λ o. o) t p q

module _ (bytes : List ℕ) where
  bit_same : (at : ℕ) → at < 128 → bit_at (take 16 bytes) at ≡ bit_at bytes at
  unfolding bit_at
  bit_same at l = ap (λ b. b / 2 ^ (7 - at % 8) % 2) (get_or-take 16 bytes (at / 8) 0 (omega arith))

  bits_same : (at n : ℕ) → at + n ≤ 128 → bits_at (take 16 bytes) at n ≡ bits_at bytes at n
  unfolding bits_at
  bits_same at zero l = refl
  bits_same at (suc n) l = ap₂ (λ x y. 2 * x + y) (bits_same at n (omega arith)) (bit_same (at + n) (omega arith))

  room-same : (end : ℕ) → end ≤ 128 → leb end (8 * length (take 16 bytes)) ≡ leb end (8 * length bytes)
  room-same end l = split (leb end (8 * length bytes)) refl
    where
      split : (b : Bool) → leb end (8 * length bytes) ≡ b → leb end (8 * length (take 16 bytes)) ≡ b
      split true e = le-leb end _ (omega (arith, length-take 16 bytes, leb-true end (8 * length bytes) e))
      split false e = lt-leb end _ (omega (arith, length-take 16 bytes, leb-false end (8 * length bytes) e))

  -- what goes on alike is read alike
  reading-same : (at n : ℕ) (f g : (number behind : ℕ) → Option Prologue) → at + n ≤ 128 → ((number : ℕ) → f number (at + n) ≡ g number (at + n))
      → reading (take 16 bytes) at n f ≡ reading bytes at n g
  unfolding reading
  reading-same at n f g l k =
      ap₂ (λ b p. when b then p else none) (room-same (at + n) l) (ap (λ number. f number (at + n)) (bits_same at n l) ∙ k (bits_at bytes at n))

  handle-same : (type at : ℕ) → at + 72 ≤ 128 → reading_handle (take 16 bytes) type at ≡ reading_handle bytes type at
  unfolding reading_handle
  handle-same type at l =
      reading-same at 4 _ _ (omega arith) λ skipped.
      reading-same (at + 4) 4 _ _ (omega arith) λ count.
      either_same _ (λ e. refl) λ e. reading-same (at + 4 + 4) (8 * count) _ _ (omega (arith, ltb-false)) λ handle. refl

  behind-same : (r2000 : Bool) (type at : ℕ) → at + 104 ≤ 128 → behind_type (take 16 bytes) r2000 type at ≡ behind_type bytes r2000 type at
  unfolding behind_type
  behind-same r2000 type at l =
      either_same r2000 (λ e. reading-same at 32 _ _ (omega arith) λ skipped. handle-same type (at + 32) (omega arith)) (λ e. handle-same type at (omega arith))

  type-same : (r2000 : Bool) (code at : ℕ) → at + 120 ≤ 128
      → reading_type (take 16 bytes) code at (behind_type (take 16 bytes) r2000) ≡ reading_type bytes code at (behind_type bytes r2000)
  unfolding reading_type
  type-same r2000 code at l =
      either_same _
      (λ e. reading-same at 8 _ _ (omega arith) λ low. reading-same (at + 8) 8 _ _ (omega arith) λ high. behind-same r2000 _ (at + 8 + 8) (omega arith)) λ e.
      either_same _ (λ e. reading-same at 8 _ _ (omega arith) λ type. behind-same r2000 type (at + 8) (omega arith)) λ e.
      either_same _ (λ e. behind-same r2000 0 at (omega arith)) (λ e. behind-same r2000 256 at (omega arith))

pub sixteen_enough : (r2000 : Bool) (bytes : List ℕ) → prologue_of r2000 (take 16 bytes) ≡ prologue_of r2000 bytes
unfolding prologue_of
sixteen_enough r2000 bytes = reading-same bytes 0 2 _ _ (omega arith) λ code. type-same bytes r2000 code 2 (omega arith)
