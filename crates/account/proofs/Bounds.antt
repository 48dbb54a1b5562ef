-- A run takes no more than its account holds: so many calls, and so many bytes.
use Rattle.std.specs.Prelude.{Ok, Err}
use Prim.Native.Nat.{ℕ, zero, suc, ◌+◌, ◌≤◌, ◌<◌}
use mathlib.Core.Bool.{Bool, true, false}
use mathlib.Core.List.{List, [], ◌∷◌}
use mathlib.Core.Path.{◌≡◌, refl, sym, ap, ◌∙◌, subst}
use native.Mathlib.Omega.{arith}
use lib.ListN.{length}
use Rattle.streaming.specs.Choose.{when◌then◌else◌}
use Rattle.streaming.specs.declared.Fault.{Fault}
use Rattle.streaming.specs.Answers.{Answer}
use Rattle.account.specs.Account.{Account, over, demand, broken, ask_of, passed, bytes_taken, brought_by, bytes_at_most}
use Rattle.account.specs.Statement.{Call, takes, after, part, Walker, HonestCall, Honest}
use Rattle.account.specs.Runs.{run, Past, Bounded}
use Rattle.account.specs.Tidy.{last, more, torn, Tidy, tidy_over, tidy_ask}
use Rattle.account.proofs.Asking.{demand-same}
use Rattle.account.proofs.Parts.{part-inside}
use Rattle.account.proofs.Fronts.{tidy_passed}
use Rattle.account.proofs.Calls.{taken, taking, after-passed}
use Rattle.account.proofs.Does.{Does, asks, does_after}
use Rattle.account.proofs.Refused.{repeats}

-- ---- one piece, of n bytes that the source has

record Pieced (n : ℕ) (a : Account) : Type 0 where
  fewer : bytes_taken (passed n a) < bytes_taken a
  at_most : n + bytes_at_most (passed n a) ≤ bytes_at_most a
  sound : ((f : Fault) → passed n a ≡ over (broken f) → ⊥) → n + bytes_taken (passed n a) ≤ bytes_taken a

brought_some : (left : ℕ) (s : Answer) → 1 ≤ left → 1 ≤ brought_by left s
brought_some left (Ok s) h = omega arith
brought_some left (Err e) h = omega arith

pieced : {src : List ℕ} (n : ℕ) {a : Account} → Tidy src a → (at left : ℕ) → ask_of a ≡ demand at left → suc n ≤ left → at + suc n ≤ length src
    → Pieced (suc n) a
unfolding bytes_taken bytes_at_most
pieced {src} n (tidy_over p) at left e h i = let z : length src ≤ at = subst (Past src) e p in absurd (omega arith)
pieced zero (tidy_ask {left = l} {says = s} p j t) at left e h i =
    record { fewer = omega arith; at_most = omega (arith, brought_some l s (omega (arith, demand-same e))); sound = λ k. omega arith }
pieced (suc n) (tidy_ask p last t) at left e h i = absurd (omega (arith, demand-same e))
pieced (suc n) (tidy_ask {at = place} {says = s} p (more {left = l} q j) t) at left e h i =
    let z = pieced n t (suc place) l j (omega (arith, demand-same e)) (omega (arith, demand-same e)) in
    record {
      fewer = omega (arith, z.fewer);
      at_most = omega (arith, z.at_most, brought_some (suc l) s (omega arith));
      sound = λ k. omega (arith, z.sound k);
    }
pieced (suc n) (tidy_ask p (torn {f = f}) t) at left e h i =
    record { fewer = omega arith; at_most = omega (arith, demand-same e); sound = λ k. absurd (k f refl) }

some_pieced : {src : List ℕ} (p : List ℕ) {a : Account} → Tidy src a → (at left : ℕ) → ask_of a ≡ demand at left → 0 < length p → length p ≤ left
    → p ≡ part src at (length p) → Pieced (length p) a
some_pieced [] t at left e h k o = absurd (omega arith)
some_pieced (b ∷ bs) t at left e h k o = pieced (length bs) t at left e k (part-inside _ at (b ∷ bs) o h)

-- ---- one call, and a run

module _ {H : Type 0} (W : Walker H) {src : List ℕ} where
  first_call : (c : Call) (cs : List Call) (st : W.State) {a : Account} → Tidy src a → Does W src st a → HonestCall W src st c
      → Bounded W (after a c) (W.feed st c).1 cs → Bounded W a st (c ∷ cs)
  unfolding when◌then◌else◌ after
  first_call c cs st {a} t d h z = split (takes (W.request st) c) refl
    where
      q : W.request st ≡ ask_of a
      q = (asks W st a d).request

      -- a piece at fault ends the walk
      broke : (f : Fault) → after a c ≡ over (broken f) → W.request (run W st (c ∷ cs)) ≡ broken f
      broke f o =
          let k = does_after W st a d c h in
          (repeats W src f (W.feed st c).1 (after a c) k ((asks W (W.feed st c).1 (after a c) k).request ∙ ap ask_of o) cs).request

      split : (b : Bool) → takes (W.request st) c ≡ b → Bounded W a st (c ∷ cs)
      split false e =
          let y = rw (← q, e) at z in
          record { calls = rw e (omega (arith, y.calls)); at_most = rw e (omega (arith, y.at_most)); sound = λ k. rw e (omega (arith, y.sound k)) }
      split true e =
          let y = rw (← q, e) at z in
          let k = taken (W.request st) c e in
          let p = some_pieced c.piece t c.offset k.left (rw (← q) k.asked) k.some k.fits (h e) in
          record {
            calls = rw e (omega (arith, y.calls, p.fewer));
            at_most = rw e (omega (arith, y.at_most, p.at_most));
            sound = λ m. rw e (omega (arith, y.sound m, p.sound (λ f o. m f (broke f (rw (← q, e) o)))));
          }

  pub bounded : (cs : List Call) (st : W.State) {a : Account} → Tidy src a → Does W src st a → Honest W src st cs → Bounded W a st cs
  bounded [] st t d h = record { calls = omega arith; at_most = omega arith; sound = λ k. omega arith }
  bounded (c ∷ cs) st {a} t d h =
      first_call c cs st t d h.0
      (bounded cs (W.feed st c).1 (subst (Tidy src) (sym (after-passed a c)) (tidy_passed (taking (ask_of a) c) t)) (does_after W st a d c h.0) h.1)
