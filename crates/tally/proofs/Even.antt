-- Within a demand of the rules every byte is payload or none is. So a piece, which never crosses a demand, is payload whole or not at all.
use Prim.Native.Nat.{ℕ, zero, suc}
use mathlib.Core.List.{List, [], ◌∷◌}
use mathlib.Core.Path.{◌≡◌, refl, sym}
use lib.ListN.{length, get_or}
use lib.Dec.{ltb, eqb}
use Rattle.streaming.specs.declared.FlatHeader.{FlatHeader}
use Rattle.streaming.specs.declared.Fault.{Fault}
use Rattle.streaming.specs.Answers.{Asked, Answer}
use Rattle.streaming.proofs.Choose.{in_both}
use Rattle.account.specs.Account.{Account, ask, over, framing, payload, passed, payload_byte}
use Rattle.account.specs.Asking.{Turn, go, says_before, ask_byte, span, passing, one_by_one, spell}
use Rattle.rules.specs.Rules.{rules}
use Rattle.rules.proofs.Kept.{Kept, rules_keep}

-- the next byte, if the source has it, is payload where this one is
abbrev pub Alike : Answer → Account → Type 0
Alike says (ask at left next rest) = payload_byte says ≡ payload_byte next
Alike says (over q) = Unit {0}

pub data Even : Account → Type 0 where
  even_over : {q : Asked} → Even (over q)
  even_last : {at : ℕ} {says : Answer} {rest : Account} → Even rest → Even (ask at 1 says rest)
  even_more : {at left : ℕ} {says : Answer} {rest : Account} → Alike says rest → Even rest → Even (ask at left says rest)

pub even_passed : (n : ℕ) {a : Account} → Even a → Even (passed n a)
even_passed zero e = e
even_passed (suc n) even_over = even_over
even_passed (suc n) (even_last e) = even_passed n e
even_passed (suc n) (even_more j e) = even_passed n e

-- ---- demand by demand

-- a turn that goes on from a byte of this kind
record Turns (kind : ℕ) (t : Turn) : Type 0 where
  says : payload_byte t.says ≡ kind
  rest : Even t.rest

module _ (src : List ℕ) where
  even_byte : (at left : ℕ) (says : Answer) (rest : Account) → Even (ask at left says rest) → Even (ask_byte src at left says rest)
  even_byte at left says rest e = in_both Even (ltb at (length src)) (λ i. e) (λ o. even_over)

  alike_byte : (plain : Answer) (at left : ℕ) (says : Answer) (rest : Account) → payload_byte plain ≡ payload_byte says
      → Alike plain (ask_byte src at left says rest)
  alike_byte plain at left says rest e = in_both (Alike plain) (ltb at (length src)) (λ i. e) (λ o. tt)

  alike_before : (n : ℕ) (plain : Answer) (t : Turn) → payload_byte t.says ≡ payload_byte plain → payload_byte plain ≡ payload_byte (says_before n plain t)
  alike_before zero plain t e = sym e
  alike_before (suc n) plain t e = refl

  even_span : (at n : ℕ) (plain : Answer) (t : Turn) → Turns (payload_byte plain) t → Even (span src at (suc n) plain t)
  unfolding span
  even_span at zero plain t k = even_byte at 1 _ _ (even_last k.rest)
  even_span at (suc n) plain t k =
      even_byte at _ _ _ (even_more (alike_byte plain (suc at) (suc n) _ _ (alike_before n plain t k.says)) (even_span (suc at) n plain t k))

  even_passing : (at n : ℕ) (plain : Answer) (a : Account) → Even a → Even (passing src at n plain a)
  unfolding span
  even_passing at zero plain a e = e
  even_passing at (suc n) plain a e = even_span at n plain (go plain a) (record { says = refl; rest = e })

  even_one_by_one : (at n : ℕ) (t : Turn) → Even t.rest → Even (one_by_one src at (suc n) t)
  unfolding one_by_one
  even_one_by_one at zero t e = even_byte at 1 _ _ (even_last e)
  even_one_by_one at (suc n) t e = even_byte at 1 _ _ (even_last (even_one_by_one (suc at) n t e))

  alike_spell : (at w : ℕ) (ws : List ℕ) (f : Fault) (t : Turn) → Turns 0 t → Alike framing (spell src at (w ∷ ws) f t)
  unfolding spell
  alike_spell at w ws f t k =
      in_both (Alike framing) (eqb (get_or src at 0) w)
      (λ g. alike_byte framing at _ _ _ (alike_before (length ws) framing t k.says)) (λ g. alike_byte framing at _ _ _ refl)

  even_spell : (at : ℕ) (ws : List ℕ) (f : Fault) (t : Turn) → Turns 0 t → Even (spell src at ws f t)
  unfolding spell
  even_spell at [] f t k = k.rest
  even_spell at (w ∷ []) f t k =
      in_both Even (eqb (get_or src at 0) w) (λ g. even_byte at 1 _ _ (even_last k.rest)) (λ g. even_byte at 1 _ _ (even_more tt even_over))
  even_spell at (w ∷ v ∷ vs) f t k =
      in_both Even (eqb (get_or src at 0) w)
      (λ g. even_byte at _ _ _ (even_more (alike_spell (suc at) v vs f t k) (even_spell (suc at) (v ∷ vs) f t k)))
      (λ g. even_byte at _ _ _ (even_more tt even_over))

  even_kept : Kept src (λ taken a. Even a) (λ at taken t. Turns 0 t)
  even_kept = record {
    stopped = λ taken f. even_over;
    failing = λ at taken f. record { says = refl; rest = even_over };
    finishing = λ at. record { says = refl; rest = even_over };
    going = λ at taken a e. record { says = refl; rest = e };
    sections = λ r at a l e. record { says = refl; rest = e };
    objects = λ r at a l e. record { says = refl; rest = e };
    spans = λ at n end taken t l k. even_span at n framing t k;
    passes = λ at n taken a e. even_passing at n framing a e;
    pays = λ p at n a e. even_passing at n (payload p) a e;
    spells = λ at n end taken ws f t l m k. even_spell at ws f t k;
    goes_one_by_one = λ at n taken t k. even_one_by_one at n t (k 0).rest;
  }

-- for every header and every source
pub rules_even : (h : FlatHeader) (src : List ℕ) → Even (rules h src)
rules_even h src = rules_keep src _ _ (even_kept src) h
