-- The payload that is heard of a run is the payload of the account in the bytes taken, in all and behind the last commit.
use Rattle.std.specs.Prelude.{Ok, Err, Some, None}
use Prim.Native.Nat.{ℕ, zero, suc, ◌+◌, ◌≤◌, ◌<◌}
use mathlib.Core.Bool.{Bool, true, false}
use mathlib.Core.List.{List, [], ◌∷◌}
use mathlib.Core.Path.{◌≡◌, refl, sym, ap, ◌∙◌, subst}
use native.Mathlib.Omega.{arith}
use native.Mathlib.Nat.{zero-add, suc-add, add-zero}
use lib.ListN.{length}
use Rattle.streaming.specs.Choose.{when◌then◌else◌}
use Rattle.streaming.specs.Record.{committed_in}
use Rattle.streaming.specs.declared.Step.TheVariants as step
use Rattle.streaming.specs.declared.StreamError.{StreamError}
use Rattle.streaming.specs.declared.StreamError.TheVariants as error
use Rattle.streaming.specs.Answers.{Answer, Failure}
use Rattle.streaming.specs.declared.FlatWalker.{FlatWalker}
use Rattle.account.specs.Account.{Account, ask, over, demand, ask_of, passed, says_at, payload_byte}
use Rattle.account.specs.Statement.{Call, takes, refusal, answer_of, after, part, HonestCall, Honest}
use Rattle.account.specs.Runs.{bytes, Past}
use Rattle.account.specs.Tidy.{Quiet, last, more, torn, Tidy, tidy_over, tidy_ask}
use Rattle.account.proofs.Asking.{demand-same}
use Rattle.account.proofs.Parts.{part-inside}
use Rattle.account.proofs.Fronts.{tidy_passed}
use Rattle.account.proofs.Calls.{taken, taking, after-passed}
use Rattle.account.proofs.Does.{Does, asks, answers, does_after}
use Rattle.rules.specs.Payload.{payload_within, kept_behind}
use Rattle.rules.specs.Payload as rules
use Rattle.flat.specs.Flat.{feed_of}
use Rattle.stands.proofs.Fitness.{flat_walker}
use Rattle.tally.specs.History.{fault_takes, refusal_takes, taken_as, payload_bytes, payload_of, total, payload_in, open_payload}
use Rattle.tally.specs.Run.{heard_of, heard_in}
use Rattle.tally.proofs.Even.{Alike, Even, even_last, even_more, even_passed}

-- ---- an account's payload, in two parts

pub within_more : (n k : ℕ) (a : Account) → payload_within n a + payload_within k (passed n a) ≡ payload_within (n + k) a
unfolding payload_within
within_more zero k a = omega (arith, ap (λ (m : ℕ). payload_within m a) (zero-add k))
within_more (suc n) k (ask at left says rest) = rw suc-add (omega (arith, within_more n k rest))
within_more (suc n) zero (over q) = rw suc-add
within_more (suc n) (suc k) (over q) = rw suc-add

pub hand_more : (taken n k : ℕ) (a : Account) → rules.payload_in_hand (rules.payload_in_hand taken n a) k (passed n a) ≡ rules.payload_in_hand taken (n + k) a
unfolding rules.payload_in_hand
hand_more taken zero k a = rw zero-add
hand_more taken (suc n) k (ask at left says rest) =
    rw suc-add (hand_more (kept_behind (committed_in says) (taken + payload_byte says)) n k rest)
hand_more taken (suc n) zero (over q) = rw suc-add
hand_more taken (suc n) (suc k) (over q) = rw suc-add

-- ---- what an answer pays

module _ (held : Failure) where
  fault_pays : (x : Failure) (n : ℕ) → payload_bytes (fault_takes x) n ≡ 0
  fault_pays None n = refl
  fault_pays (Some f) n = refl

  pub refusal_pays : (e : StreamError) (n : ℕ) → payload_bytes (refusal_takes held e) n ≡ 0
  refusal_pays (error.LocatorCount count) n = refl
  refusal_pays (error.LocatorRange number) n = refl
  refusal_pays error.Finished n = refl
  refusal_pays (error.WrongOffset expected actual) n = refl
  refusal_pays (error.InvalidFeed maximum actual) n = refl
  refusal_pays (error.Truncated offset needed) n = refl
  refusal_pays (error.Fault f) n = fault_pays held n
  refusal_pays (error.NoRoom needed) n = refl
  refusal_pays error.BadState n = refl

  -- a byte more of the same answer
  pays_more : (a : Answer) (n : ℕ) → payload_bytes (taken_as held a) (suc n) ≡ payload_byte a + payload_bytes (taken_as held a) n
  pays_more (Ok step.Framing) n = refl
  pays_more (Ok (step.Payload part)) n = omega arith
  pays_more (Ok (step.Section r)) n = refl
  pays_more (Ok (step.Object r)) n = refl
  pays_more (Ok step.Finished) n = refl
  pays_more (Err e) n = omega (arith, refusal_pays e n, refusal_pays e (suc n))

  pays_none : (a : Answer) → payload_bytes (taken_as held a) 0 ≡ 0
  pays_none (Ok step.Framing) = refl
  pays_none (Ok (step.Payload part)) = refl
  pays_none (Ok (step.Section r)) = refl
  pays_none (Ok (step.Object r)) = refl
  pays_none (Ok step.Finished) = refl
  pays_none (Err e) = refusal_pays e 0

-- what a quiet byte leaves in hand
quiet_keeps : (s : Answer) → Quiet s → (n : ℕ) → kept_behind (committed_in s) n ≡ n
quiet_keeps (Ok step.Framing) q n = refl
quiet_keeps (Ok (step.Payload part)) q n = refl
quiet_keeps (Ok (step.Section r)) q n = absurd q
quiet_keeps (Ok (step.Object r)) q n = absurd q
quiet_keeps (Ok step.Finished) q n = absurd q
quiet_keeps (Err e) q n = absurd q

-- ---- one piece, of n bytes that the source has

-- whether the first byte is payload
abbrev first : Account → ℕ
first (ask at left says rest) = payload_byte says
first (over q) = 0

record Piece (held : Failure) (n : ℕ) (a : Account) : Type 0 where
  pays : payload_bytes (taken_as held (says_at n a)) n ≡ payload_within n a
  kind : first a ≡ payload_byte (says_at n a)
  hand : (before : ℕ) → rules.payload_in_hand before n a ≡ kept_behind (committed_in (says_at n a)) (before + payload_within n a)

-- the byte behind one of its kind
alike_first : {src : List ℕ} (says : Answer) {a : Account} → Alike says a → Tidy src a → (at left : ℕ) → ask_of a ≡ demand at left → at < length src
    → payload_byte says ≡ first a
alike_first {src} says j (tidy_over p) at left e h = let z : length src ≤ at = subst (Past src) e p in absurd (omega arith)
alike_first says j (tidy_ask p k t) at left e h = j

module _ (held : Failure) where
  piece : {src : List ℕ} (n : ℕ) {a : Account} → Tidy src a → Even a → (at left : ℕ) → ask_of a ≡ demand at left → suc n ≤ left → at + suc n ≤ length src
      → Piece held (suc n) a
  unfolding payload_within rules.payload_in_hand
  piece {src} n (tidy_over p) v at left e h i = let z : length src ≤ at = subst (Past src) e p in absurd (omega arith)
  piece zero (tidy_ask {says = s} p j t) v at left e h i =
      record {
        pays = omega (arith, pays_more held s 0, pays_none held s);
        kind = refl;
        hand = λ before. ap (λ (k : ℕ). kept_behind (committed_in s) (before + k)) (sym (add-zero (payload_byte s)));
      }
  piece (suc n) (tidy_ask p last t) v at left e h i = absurd (omega (arith, demand-same e))
  piece (suc n) (tidy_ask p (more q j) t) (even_last v) at left e h i = absurd (omega (arith, demand-same e))
  piece (suc n) (tidy_ask {at = place} {says = s} {rest = rest} p (more {left = l} q j) t) (even_more k v) at left e h i =
      let z = piece n t v (suc place) l j (omega (arith, demand-same e)) (omega (arith, demand-same e)) in
      let same : payload_byte s ≡ payload_byte (says_at (suc n) rest) =
      alike_first s k t (suc place) l j (omega (arith, demand-same e)) ∙ z.kind in
      record {
        pays = omega (arith, pays_more held (says_at (suc n) rest) (suc n), z.pays);
        kind = same;
        hand = λ before.
            ap (λ (x : ℕ). rules.payload_in_hand x (suc n) rest) (quiet_keeps s q (before + payload_byte s))
            ∙ z.hand (before + payload_byte s)
            ∙ ap (kept_behind (committed_in (says_at (suc n) rest))) (omega arith);
      }
  piece (suc n) (tidy_ask p (torn {f = f}) t) v at left e h i =
      record { pays = omega (arith, refusal_pays held (error.Fault f) (suc (suc n))); kind = refl; hand = λ before. omega arith }

  some-piece : {src : List ℕ} (p : List ℕ) {a : Account} → Tidy src a → Even a → (at left : ℕ) → ask_of a ≡ demand at left → 0 < length p → length p ≤ left
      → p ≡ part src at (length p) → Piece held (length p) a
  some-piece [] t v at left e h k o = absurd (omega arith)
  some-piece (b ∷ bs) t v at left e h k o = piece (length bs) t v at left e k (part-inside _ at (b ∷ bs) o h)

-- ---- one call

-- an answer to a call pays what its bytes do, and leaves in hand what they leave
record Pays (held : Failure) (c : Call) (a : Account) (x : Answer) : Type 0 where
  pays : payload_bytes (taken_as held x) (length c.piece) ≡ payload_within (taking (ask_of a) c) a
  hand : (before : ℕ) → kept_behind (committed_in x) (before + payload_bytes (taken_as held x) (length c.piece)) ≡ rules.payload_in_hand before (taking (ask_of a) c) a

call_pays : (held : Failure) {src : List ℕ} {a : Account} → Tidy src a → Even a → (c : Call)
    → (takes (ask_of a) c ≡ true → c.piece ≡ part src c.offset (length c.piece)) → Pays held c a (answer_of a c)
unfolding answer_of when◌then◌else◌ payload_within rules.payload_in_hand
call_pays held {a = a} t v c honest = split (takes (ask_of a) c) refl
  where
    split : (b : Bool) → takes (ask_of a) c ≡ b → Pays held c a (answer_of a c)
    split true e =
        let k = taken (ask_of a) c e in
        let z = some-piece held c.piece t v c.offset k.left k.asked k.some k.fits (honest e) in
        let said = says_at (length c.piece) a in
        record {
          pays = rw e z.pays;
          hand = λ before. rw e (ap (λ (n : ℕ). kept_behind (committed_in said) (before + n)) z.pays ∙ sym (z.hand before));
        }
    split false e =
        let none = refusal_pays held (refusal (ask_of a) c) (length c.piece) in
        record { pays = rw e none; hand = λ before. rw e (omega (arith, none)) }

-- ---- a run

-- what is heard of a run pays what the bytes taken do
pub record Paid (cs : List Call) (s : FlatWalker) (a : Account) : Type 0 where
  pub heard : payload_in (heard_in s cs) ≡ payload_within (bytes flat_walker s cs) a
  pub hand : (before : ℕ) → open_payload before (heard_in s cs) ≡ rules.payload_in_hand before (bytes flat_walker s cs) a

module _ {src : List ℕ} where
  call_heard : (c : Call) (s : FlatWalker) {a : Account} → Tidy src a → Even a → Does flat_walker src s a → HonestCall flat_walker src s c
      → Pays s.failure c a (heard_of s c).answer
  call_heard c s {a} t v d h =
      subst (Pays s.failure c a) (sym (answers flat_walker s a d c h)) (call_pays s.failure t v c (λ e. h (rw (asks flat_walker s a d).request e)))

  pub run_paid : (cs : List Call) (s : FlatWalker) {a : Account} → Tidy src a → Even a → Does flat_walker src s a → Honest flat_walker src s cs → Paid cs s a
  unfolding heard_in total open_payload rules.payload_in_hand payload_within
  run_paid [] s t v d h = record { heard = refl; hand = λ before. refl }
  run_paid (c ∷ cs) s {a} t v d h =
      let next = (feed_of s c.offset c.piece).state in
      let n = taking (ask_of a) c in
      let k = bytes flat_walker next cs in
      let same : after a c ≡ passed n a = after-passed a c in
      let one = call_heard c s t v d h.0 in
      let z = run_paid cs next (tidy_passed n t) (even_passed n v) (subst (Does flat_walker src next) same (does_after flat_walker s a d c h.0)) h.1 in
      let q = (asks flat_walker s a d).request in
      record {
        heard = rw q (omega (arith, one.pays, z.heard, within_more n k a));
        hand = λ before. rw q
            (z.hand (kept_behind (committed_in (heard_of s c).answer) (before + payload_of (heard_of s c)))
            ∙ ap (λ (x : ℕ). rules.payload_in_hand x k (passed n a)) (one.hand before)
            ∙ hand_more before n k a);
      }
