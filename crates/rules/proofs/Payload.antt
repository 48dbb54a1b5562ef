-- The payload of a walk is the sizes of what it commits, and what was taken of the unit in hand.
use Rattle.std.specs.Prelude.{Ok, None}
use Prim.Native.Nat.{ℕ, zero, suc, ◌+◌}
use mathlib.Core.List.{List, [], ◌∷◌, ◌++◌}
use mathlib.Core.Path.{◌≡◌, refl}
use native.Mathlib.Omega.{arith}
use native.Mathlib.Nat.{add-zero}
use lib.ListN.{length, get_or}
use lib.Dec.{ltb, eqb}
use Rattle.streaming.specs.Record.{Record, committed_in}
use Rattle.streaming.specs.declared.Part.{Part}
use Rattle.streaming.specs.declared.FlatHeader.{FlatHeader}
use Rattle.streaming.specs.declared.Fault.{Fault}
use Rattle.streaming.specs.Answers.{Asked, Answer}
use Rattle.streaming.proofs.Choose.{in_both}
use Rattle.account.specs.Account.{Account, ask, over, demand, framing, payload, faulted, broken, records_in, records_within, ending_of, payload_byte, payload_taken}
use Rattle.account.specs.Asking.{Turn, ask_byte, span, passing, one_by_one, spell}
use Rattle.rules.specs.Rules.{rules, records, ending}
use Rattle.rules.specs.Payload.{size_of, sizes_of, payload_within, kept_behind, payload_in_hand}
use Rattle.rules.proofs.Kept.{Kept, rules_keep}

-- what a byte commits has the size that is in hand with it
abbrev Due : List Record → (taken : ℕ) → Type 0
Due [] taken = Unit {0}
Due (r ∷ []) taken = size_of r ≡ taken
Due (r ∷ s ∷ rs) taken = ⊥

-- An account that begins with so much payload in hand. Where the walk is finished nothing is.
data Pays : (taken : ℕ) → Account → Type 0 where
  ends : {taken : ℕ} {q : Asked} → (q ≡ Ok None → taken ≡ 0) → Pays taken (over q)
  each : {taken at left : ℕ} {says : Answer} {rest : Account} → Due (committed_in says) (taken + payload_byte says)
      → Pays (kept_behind (committed_in says) (taken + payload_byte says)) rest → Pays taken (ask at left says rest)

-- a turn with so much in hand, at the last byte of any demand
record Settles (taken : ℕ) (t : Turn) : Type 0 where
  last : (at left : ℕ) → Pays taken (ask at left t.says t.rest)

pays_broken : (taken : ℕ) (f : Fault) → Pays taken (over (broken f))
pays_broken taken f = ends (never (broken f) refl)
  where
    never : (q : Asked) → q ≡ broken f → q ≡ Ok None → taken ≡ 0
    never q d e = let z : ◌≡◌ {A = ℕ} 0 1 = cc in absurd (omega arith)

pays_demand : (taken at left : ℕ) → Pays taken (over (demand at left))
pays_demand taken at left = ends (never (demand at left) refl)
  where
    never : (q : Asked) → q ≡ demand at left → q ≡ Ok None → taken ≡ 0
    never q d e = let z : ◌≡◌ {A = ℕ} 0 1 = cc in absurd (omega arith)

pays_bad : (taken at left : ℕ) (f : Fault) → Pays taken (ask at left (faulted f) (over (broken f)))
pays_bad taken at left f = each tt (pays_broken _ f)

pays_framing : (taken at left : ℕ) (a : Account) → Pays taken a → Pays taken (ask at left framing a)
pays_framing taken at left a k = let j : Pays (taken + 0) a = rw add-zero k in each tt j

module _ (src : List ℕ) where
  pays_byte : (taken at left : ℕ) (s : Answer) (a : Account) → Pays taken (ask at left s a) → Pays taken (ask_byte src at left s a)
  pays_byte taken at left s a k =
      in_both (Pays taken) (ltb at (length src)) (λ e. k) (λ e. pays_demand taken at left)

  pays_span : (at n taken : ℕ) (t : Turn) → Settles taken t → Pays taken (span src at (suc n) framing t)
  unfolding span
  pays_span at zero taken t k = pays_byte taken at 1 _ _ (k.last at 1)
  pays_span at (suc n) taken t k = pays_byte taken at _ _ _ (pays_framing taken _ _ _ (pays_span (suc at) n taken t k))

  pays_passing : (at n taken : ℕ) (a : Account) → Pays taken a → Pays taken (passing src at n framing a)
  unfolding span
  pays_passing at zero taken a k = k
  pays_passing at (suc n) taken a k = pays_span at n taken _ (record { last = λ at left. pays_framing taken at left a k })

  pays_payload : (p : Part) (at n taken all : ℕ) (a : Account) → taken + n ≡ all → Pays all a → Pays taken (passing src at n (payload p) a)
  unfolding span
  pays_payload p at zero taken all a e k = let f : taken ≡ all = omega arith in rw f k
  pays_payload p at (suc zero) taken all a e k = let f : taken + 1 ≡ all = omega arith in pays_byte taken at _ _ _ (each tt (rw f k))
  pays_payload p at (suc (suc n)) taken all a e k =
      pays_byte taken at _ _ _ (each tt (pays_payload p (suc at) (suc n) (taken + 1) all a (omega arith) k))

  pays_one_by_one : (at n taken : ℕ) (t : Turn) → Settles taken t → Pays taken (one_by_one src at (suc n) t)
  unfolding one_by_one
  pays_one_by_one at zero taken t k = pays_byte taken at 1 _ _ (k.last at 1)
  pays_one_by_one at (suc n) taken t k = pays_byte taken at 1 _ _ (pays_framing taken _ _ _ (pays_one_by_one (suc at) n taken t k))

  pays_spell : (at n taken : ℕ) (ws : List ℕ) (f : Fault) (t : Turn) → length ws ≡ suc n → Settles taken t → Pays taken (spell src at ws f t)
  unfolding spell
  pays_spell at n taken [] f t l k = absurd (omega arith)
  pays_spell at n taken (w ∷ []) f t l k =
      in_both (Pays taken) (eqb (get_or src at 0) w)
      (λ g. pays_byte taken at 1 _ _ (k.last at 1)) (λ g. pays_byte taken at 1 _ _ (pays_bad taken _ _ f))
  pays_spell at n taken (w ∷ v ∷ vs) f t l k =
      in_both (Pays taken) (eqb (get_or src at 0) w)
      (λ g. pays_byte taken at _ _ _ (pays_framing taken _ _ _ (pays_spell (suc at) (length vs) taken (v ∷ vs) f t refl k)))
      (λ g. pays_byte taken at _ _ _ (pays_bad taken _ _ f))

  pays_kept : Kept src Pays (λ at taken t. Settles taken t)
  pays_kept = record {
    stopped = pays_broken;
    failing = λ at taken f. record { last = λ at left. pays_bad taken at left f };
    finishing = λ at. record { last = λ at left. each tt (ends λ e. refl) };
    going = λ at taken a k. record { last = λ at left. pays_framing taken at left a k };
    sections = λ r at a e k. record { last = λ at left. let d : r.size ≡ r.size + 0 = omega arith in each d k };
    objects = λ r at a e k. record { last = λ at left. let d : r.size ≡ r.size + 0 = omega arith in each d k };
    spans = λ at n end taken t e k. pays_span at n taken t k;
    passes = pays_passing;
    pays = λ p at n a k. pays_payload p at n 0 n a (omega arith) k;
    spells = λ at n end taken ws f t l e k. pays_spell at n taken ws f t l k;
    goes_one_by_one = λ at n taken t k. pays_one_by_one at n taken t (k 0);
  }

rules_pay : (h : FlatHeader) (src : List ℕ) → Pays 0 (rules h src)
rules_pay h src = rules_keep src Pays (λ at taken t. Settles taken t) (pays_kept src) h

-- ---- what that makes in numbers

-- a byte that commits these records, and what follows it
step : (cs more : List Record) (taken payload hand : ℕ) → Due cs taken → kept_behind cs taken + payload ≡ sizes_of more + hand
    → taken + payload ≡ sizes_of (cs ++ more) + hand
unfolding sizes_of
step [] more taken payload hand d e = e
step (r ∷ []) more taken payload hand d e = omega arith
step (r ∷ s ∷ rs) more taken payload hand d e = absurd d

so_far : (taken n : ℕ) (a : Account) → Pays taken a → taken + payload_within n a ≡ sizes_of (records_within n a) + payload_in_hand taken n a
unfolding payload_within records_within payload_in_hand sizes_of
so_far taken zero a k = omega arith
so_far taken (suc n) (over q) k = omega arith
so_far taken (suc n) (ask at left says rest) (each d k) =
    let hand = kept_behind (committed_in says) (taken + payload_byte says) in
    omega (
      arith,
      step (committed_in says) (records_within n rest) (taken + payload_byte says) (payload_within n rest) (payload_in_hand hand n rest) d
          (so_far hand n rest k),
    )

in_all : (taken : ℕ) (a : Account) → Pays taken a → ending_of a ≡ Ok None → taken + payload_taken a ≡ sizes_of (records_in a) + 0
unfolding ending_of payload_taken records_in sizes_of
in_all taken (over q) (ends f) e = omega (arith, f e)
in_all taken (ask at left says rest) (each d k) e =
    let hand = kept_behind (committed_in says) (taken + payload_byte says) in
    omega (arith, step (committed_in says) (records_in rest) (taken + payload_byte says) (payload_taken rest) 0 d (in_all hand rest k e))

-- for every header and source, at every moment
pub payload_so_far : (h : FlatHeader) (src : List ℕ) (n : ℕ)
    → payload_within n (rules h src) ≡ sizes_of (records_within n (rules h src)) + payload_in_hand 0 n (rules h src)
payload_so_far h src n = omega (arith, so_far 0 n (rules h src) (rules_pay h src))

-- a finished walk has nothing in hand
pub payload_in_all : (h : FlatHeader) (src : List ℕ) → ending h src ≡ Ok None → payload_taken (rules h src) ≡ sizes_of (records h src)
payload_in_all h src e = omega (arith, in_all 0 (rules h src) (rules_pay h src) e)
