-- In every account of the rules each commit stands at the last byte of its own record's unit.
use Rattle.std.specs.Prelude.{Ok, Err}
use Prim.Native.Nat.{ℕ, zero, suc, ◌+◌}
use mathlib.Core.List.{List, [], ◌∷◌}
use mathlib.Core.Path.{◌≡◌, refl}
use native.Mathlib.Omega.{arith}
use lib.ListN.{length, get_or}
use lib.Dec.{ltb, eqb}
use Rattle.streaming.specs.Record.{committed_in}
use Rattle.streaming.specs.declared.FlatHeader.{FlatHeader}
use Rattle.streaming.specs.declared.Step.TheVariants as step
use Rattle.streaming.specs.declared.Fault.{Fault}
use Rattle.streaming.specs.Answers.{Answer}
use Rattle.streaming.proofs.Choose.{in_both}
use Rattle.account.specs.Account.{Account, framing, payload}
use Rattle.account.specs.Asking.{Turn, go, ask_byte, span, passing, one_by_one, spell}
use Rattle.account.specs.Tidy.{Quiet}
use Rattle.rules.specs.Rules.{rules}
use Rattle.rules.specs.LastByte.{Placed, CommitsLast, none_left, each}
use Rattle.rules.proofs.Kept.{Kept, rules_keep}

module _ (src : List ℕ) where
  -- a turn taken at a place
  record Turned (at : ℕ) (t : Turn) : Type 0 where
    placed : Placed src at 1 (committed_in t.says)
    behind : CommitsLast src t.rest

  quiet_placed : (at left : ℕ) (s : Answer) → Quiet s → Placed src at left (committed_in s)
  quiet_placed at left (Ok step.Framing) q = tt
  quiet_placed at left (Ok (step.Payload part)) q = tt
  quiet_placed at left (Ok (step.Section r)) q = absurd q
  quiet_placed at left (Ok (step.Object r)) q = absurd q
  quiet_placed at left (Ok step.Finished) q = absurd q
  quiet_placed at left (Err e) q = absurd q

  quiet_turned : (at : ℕ) (s : Answer) (a : Account) → Quiet s → CommitsLast src a → Turned at (go s a)
  quiet_turned at s a q c = record { placed = quiet_placed at 1 s q; behind = c }

  last_byte : (at left : ℕ) (s : Answer) (a : Account) → Placed src at left (committed_in s) → CommitsLast src a → CommitsLast src (ask_byte src at left s a)
  last_byte at left s a p c = in_both (CommitsLast src) (ltb at (length src)) (λ e. each p c) (λ e. none_left)

  last-span : (at n end : ℕ) (plain : Answer) (t : Turn) → Quiet plain → at + n ≡ end → Turned end t → CommitsLast src (span src at (suc n) plain t)
  unfolding span
  last-span at zero end plain t q e k = let p : at ≡ end = omega arith in last_byte at 1 t.says t.rest (rw p k.placed) k.behind
  last-span at (suc n) end plain t q e k =
      last_byte at (suc (suc n)) plain _ (quiet_placed _ _ plain q) (last-span (suc at) n end plain t q (omega arith) k)

  last-passing : (at n : ℕ) (plain : Answer) (a : Account) → Quiet plain → CommitsLast src a → CommitsLast src (passing src at n plain a)
  unfolding span
  last-passing at zero plain a q c = c
  last-passing at (suc n) plain a q c = last-span at n (at + n) plain (go plain a) q refl (quiet_turned _ plain a q c)

  last-one_by_one : (at n : ℕ) (t : Turn) → ((end : ℕ) → Turned end t) → CommitsLast src (one_by_one src at (suc n) t)
  unfolding one_by_one
  last-one_by_one at zero t k = last_byte at 1 t.says t.rest (k at).placed (k at).behind
  last-one_by_one at (suc n) t k = last_byte at 1 framing _ tt (last-one_by_one (suc at) n t k)

  last-spell : (at n end : ℕ) (ws : List ℕ) (f : Fault) (t : Turn) → length ws ≡ suc n → at + n ≡ end → Turned end t → CommitsLast src (spell src at ws f t)
  unfolding spell
  last-spell at n end [] f t l e k = absurd (omega arith)
  last-spell at n end (w ∷ []) f t l e k =
      let p : at ≡ end = omega arith in
      in_both (CommitsLast src) (eqb (get_or src at 0) w)
      (λ g. last_byte at 1 t.says t.rest (rw p k.placed) k.behind) (λ g. last_byte at 1 _ _ tt none_left)
  last-spell at n end (w ∷ v ∷ vs) f t l e k =
      in_both (CommitsLast src) (eqb (get_or src at 0) w)
      (λ g. last_byte at (suc (suc (length vs))) framing _ tt (last-spell (suc at) (length vs) end (v ∷ vs) f t refl (omega arith) k))
      (λ g. last_byte at (suc (suc (length vs))) _ _ tt none_left)

  last_kept : Kept src (λ taken a. CommitsLast src a) (λ at taken t. Turned at t)
  last_kept = record {
    stopped = λ taken f. none_left;
    failing = λ at taken f. record { placed = tt; behind = none_left };
    finishing = λ at. record { placed = tt; behind = none_left };
    going = λ at taken a c. quiet_turned at framing a tt c;
    sections = λ r at a e c. record { placed = (e, refl, refl); behind = c };
    objects = λ r at a e c. record { placed = (e, refl, refl); behind = c };
    spans = λ at n end taken t e k. last-span at n end framing t tt e k;
    passes = λ at n taken a c. last-passing at n framing a tt c;
    pays = λ p at n a c. last-passing at n (payload p) a tt c;
    spells = λ at n end taken ws f t l e k. last-spell at n end ws f t l e k;
    goes_one_by_one = λ at n taken t k. last-one_by_one at n t k;
  }

-- for every header and every source
pub commits_last : (h : FlatHeader) (src : List ℕ) → CommitsLast src (rules h src)
commits_last h src = rules_keep src _ _ (last_kept src) h
