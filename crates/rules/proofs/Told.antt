-- A demand that the source has bytes for tells what its turn does.
use Rattle.std.specs.Prelude.{Ok, Err}
use Prim.Native.Nat.{ℕ, zero, suc, ◌+◌, ◌≤◌, ◌<◌}
use mathlib.Core.Bool.{Bool, true, false, ◌&&◌}
use mathlib.Core.List.{List, [], ◌∷◌, ◌++◌}
use mathlib.Core.Path.{◌≡◌, refl, ◌∙◌}
use native.Mathlib.Omega.{arith}
use lib.ListN.{length, get_or}
use lib.Seq.{drop-cons}
use lib.Dec.{eqb}
use borrow.Author.Tests.{lt-ltb}
use Rattle.streaming.specs.Choose.{when◌then◌else◌}
use Rattle.streaming.specs.Record.{committed_in}
use Rattle.streaming.specs.declared.Step.TheVariants as step
use Rattle.streaming.specs.declared.Fault.{Fault}
use Rattle.streaming.specs.Answers.{Asked, Answer}
use Rattle.account.specs.Statement.{part}
use Rattle.account.specs.Account.{Account, ask, over, records_in, ending_of, framing, faulted, broken}
use Rattle.account.specs.Asking.{Turn, go, bad, span, passing, one_by_one, spell}
use Rattle.account.specs.Tidy.{Quiet}
use Rattle.octets.specs.Octets.{same}
use Rattle.rules.specs.PlainList.{Listing, stop, require, told}

abbrev pub told_turn : Turn → Listing
told_turn t = record { records = committed_in t.says ++ records_in t.rest; ending = ending_of t.rest }

-- what is quiet commits nothing
quiet : (s : Answer) → Quiet s → (a : Account) → told_turn (go s a) ≡ told a
quiet (Ok step.Framing) q a = refl
quiet (Ok (step.Payload part)) q a = refl
quiet (Ok (step.Section r)) q a = absurd q
quiet (Ok (step.Object r)) q a = absurd q
quiet (Ok step.Finished) q a = absurd q
quiet (Err e) q a = absurd q

pub told-bad : (f : Fault) → told_turn (bad f) ≡ stop (broken f)
unfolding records_in ending_of
told-bad f = refl

pub told_over : (q : Asked) → told (over q) ≡ stop q
unfolding records_in ending_of
told_over q = refl

pub told-ask : (at left : ℕ) (s : Answer) (a : Account) → told (ask at left s a) ≡ told_turn (go s a)
unfolding records_in ending_of
told-ask at left s a = refl

-- a test before a turn, and one before a unit is entered
pub turn_if : (b : Bool) (f : Fault) (t : Turn) {l : Listing} → (b ≡ true → told_turn t ≡ l) → told_turn (when b then t else bad f) ≡ require b f l
unfolding when◌then◌else◌ require
turn_if true f t e = e refl
turn_if false f t e = told-bad f

pub entered_if : (b : Bool) (f : Fault) (a : Account) {l : Listing} → (b ≡ true → told a ≡ l) → told (when b then a else over (broken f)) ≡ require b f l
unfolding when◌then◌else◌ require
entered_if true f a e = e refl
entered_if false f a e = told_over (broken f)

pub require_if : (b : Bool) (f : Fault) {l m : Listing} → (b ≡ true → l ≡ m) → require b f l ≡ require b f m
unfolding require
require_if true f e = e refl
require_if false f e = refl

module _ (src : List ℕ) where
  pub told-span : (at n : ℕ) (plain : Answer) (t : Turn) → Quiet plain → at + suc n ≤ length src → told (span src at (suc n) plain t) ≡ told_turn t
  unfolding span when◌then◌else◌
  told-span at zero plain t q h = rw (lt-ltb at (length src) (omega arith)) (told-ask _ _ _ _)
  told-span at (suc n) plain t q h =
      rw (lt-ltb at (length src) (omega arith)) (told-ask _ _ _ _ ∙ quiet plain q _ ∙ told-span (suc at) n plain t q (omega arith))

  pub told-passing : (at n : ℕ) (plain : Answer) (a : Account) → Quiet plain → at + n ≤ length src → told (passing src at n plain a) ≡ told a
  unfolding span
  told-passing at zero plain a q h = refl
  told-passing at (suc n) plain a q h = told-span at n plain (go plain a) q h ∙ quiet plain q a

  pub told-one_by_one : (at n : ℕ) (t : Turn) → at + suc n ≤ length src → told (one_by_one src at (suc n) t) ≡ told_turn t
  unfolding one_by_one when◌then◌else◌
  told-one_by_one at zero t h = rw (lt-ltb at (length src) (omega arith)) (told-ask _ _ _ _)
  told-one_by_one at (suc n) t h = rw (lt-ltb at (length src) (omega arith)) (told-ask _ _ _ _ ∙ told-one_by_one (suc at) n t (omega arith))

  spell-told : (at w : ℕ) (ws : List ℕ) (f : Fault) (t : Turn) → at + suc (length ws) ≤ length src
      → told (spell src at (w ∷ ws) f t) ≡ require (same (part src at (suc (length ws))) (w ∷ ws)) f (told_turn t)
  unfolding spell same when◌then◌else◌ require
  spell-told at w [] f t h = rw (drop-cons src at 0 (omega arith), lt-ltb at (length src) (omega arith)) (both (eqb (get_or src at 0) w))
    where
      both : (b : Bool) → told (when b then ask at 1 t.says t.rest else ask at 1 (faulted f) (over (broken f))) ≡ require (b && true) f (told_turn t)
      both true = told-ask _ _ _ _
      both false = told-ask _ _ _ _ ∙ told-bad f
  spell-told at w (v ∷ vs) f t h =
      rw (drop-cons src at 0 (omega arith), lt-ltb at (length src) (omega arith)) (both (eqb (get_or src at 0) w) (spell-told (suc at) v vs f t (omega arith)))
    where
      both : (b : Bool) → told (spell src (suc at) (v ∷ vs) f t) ≡ require (same (part src (suc at) (suc (length vs))) (v ∷ vs)) f (told_turn t)
          → told (when b then ask at (suc (suc (length vs))) framing (spell src (suc at) (v ∷ vs) f t)
          else ask at (suc (suc (length vs))) (faulted f) (over (broken f)))
          ≡ require (b && same (part src (suc at) (suc (length vs))) (v ∷ vs)) f (told_turn t)
      both true e = told-ask _ _ _ _ ∙ e
      both false e = told-ask _ _ _ _ ∙ told-bad f

  -- n given bytes, one at least
  pub told-spell : (at n : ℕ) (ws : List ℕ) (f : Fault) (t : Turn) → length ws ≡ n → 0 < n → at + n ≤ length src
      → told (spell src at ws f t) ≡ require (same (part src at n) ws) f (told_turn t)
  told-spell at n [] f t e k h = absurd (omega arith)
  told-spell at n (w ∷ ws) f t e k h = rw (← e) (spell-told at w ws f t (omega arith))
