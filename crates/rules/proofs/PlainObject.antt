-- The account of an object tells what the plain list has of it.
use Prim.Native.Nat.{ℕ, suc, ◌+◌, ◌-◌, ◌≤◌, ◌<◌}
use mathlib.Core.Bool.{Bool, true, false, ◌&&◌, not}
use mathlib.Core.List.{List}
use mathlib.Core.Path.{◌≡◌, refl, ap, ap₂, ◌∙◌}
use native.Mathlib.Omega.{arith}
use lib.ListN.{length}
use lib.Dec.{ltb}
use borrow.Author.Tests.{ltb-true, ltb-false, le-ltb}
use Rattle.streaming.specs.Choose.{when◌then◌else◌}
use Rattle.streaming.specs.declared.Part.TheVariants.{Object}
use Rattle.streaming.specs.declared.FlatHeader.{FlatHeader}
use Rattle.streaming.specs.declared.Fault.TheVariants as fault
use Rattle.streaming.proofs.Choose.{in_both}
use Rattle.account.specs.Account.{Account, ask, over, demand, framing, payload}
use Rattle.account.specs.Asking.{Turn, go, span}
use Rattle.rules.specs.Object.{Size, sized, unending, is_last, Verdict, holds, fails, may_start, may_end, first_word, size_at, verdict}
use Rattle.rules.specs.Object.{verdict_turn, ask_object_data, object_size_turn, ask_object, object_turn}
use Rattle.rules.specs.PlainList.{told, stop, verdict_then, sized_then, lacks_second_word, object_then}
use Rattle.rules.proofs.Object.{start-inside, end_inside}
use Rattle.rules.proofs.Told.{told_turn, told-bad, told_over, told-ask, turn_if, told-span, told-passing}

-- a demand of two bytes of which the source has none or one
lacking : (src : List ℕ) (at : ℕ) (t : Turn) → at ≤ length src → length src < at + 2
    → told (span src at 2 framing t) ≡ stop (demand (length src) (at + 2 - length src))
unfolding span when◌then◌else◌
lacking src at t h k = split (ltb at (length src)) refl
  where
    split : (b : Bool) → ltb at (length src) ≡ b
        → told (when b then ask at 2 framing (span src (suc at) 1 framing t) else over (demand at 2)) ≡ stop (demand (length src) (at + 2 - length src))
    split true e =
        let l : suc at ≡ length src = omega (arith, ltb-true at (length src) e) in
        rw (le-ltb (suc at) (length src) (omega arith)) (told-ask _ _ _ _ ∙ told_over (demand (suc at) 1) ∙ ap stop (ap₂ demand l (omega arith)))
    split false e =
        let l : at ≡ length src = omega (arith, ltb-false at (length src) e) in
        told_over (demand at 2) ∙ ap stop (ap₂ demand l (omega arith))

module _ (h : FlatHeader) (src : List ℕ) (len : length src ≡ h.length) (handle location : ℕ) (next : Account) where
  verdict-told : (v : Verdict) → told_turn (verdict_turn next v) ≡ verdict_then v (told next)
  unfolding verdict_turn verdict_then
  verdict-told (holds r) = refl
  verdict-told (fails f) = told-bad f

  sized-told : (s : Size) → told_turn (object_size_turn h src handle location next s) ≡ sized_then h src handle location s (told next)
  unfolding object_size_turn ask_object_data sized_then
  sized-told unending = told-bad (fault.ObjectSize handle)
  sized-told (sized n size) =
      turn_if _ _ _ λ e.
      turn_if (may_end h location (location + n + size + 2)) _ _ λ f.
      let k : location + n + size + 2 ≤ h.length = end_inside h location (location + n + size + 2) f in
      told-passing src (location + n) size (payload Object) _ tt (omega arith) ∙
      told-span src (location + n + size) 1 framing _ tt (omega arith) ∙
      verdict-told (verdict h src handle location n size)

  -- by whether the first word is the last
  words-told : (b : Bool) (s : Size) → location + 2 ≤ h.length
      → told_turn (when b then object_size_turn h src handle location next s
      else go framing (span src (location + 2) 2 framing (object_size_turn h src handle location next s)))
      ≡ (when not b && ltb h.length (location + 4) then stop (demand h.length (location + 4 - h.length))
      else sized_then h src handle location s (told next))
  unfolding when◌then◌else◌
  words-told true s k = sized-told s
  words-told false s k =
      in_both (λ l. told (span src (location + 2) 2 framing (object_size_turn h src handle location next s)) ≡ l) (ltb h.length (location + 4))
      (λ e. let l : h.length < location + 4 = ltb-true h.length (location + 4) e in
      lacking src (location + 2) _ (omega arith) (omega arith) ∙ ap stop (ap₂ demand len (omega arith)))
      (λ e. let l : location + 4 ≤ h.length = ltb-false h.length (location + 4) e in
      told-span src (location + 2) 1 framing _ tt (omega arith) ∙ sized-told s)

  pub object-told : told_turn (object_turn h src handle location next) ≡ object_then h src handle location (told next)
  unfolding object_turn ask_object object_then lacks_second_word
  object-told =
      turn_if (may_start h location) _ _ λ e.
      let k : location + 2 ≤ h.length = start-inside h location e in
      told-span src location 1 framing _ tt (omega arith) ∙
      words-told (is_last (first_word src location)) (size_at src location) k
