-- A small format, so that nothing here is vacuous: two given bytes, then one below the header's limit, which is a record.
-- Its accounts are well formed, and a walker meets it. Its runs are in Cases.
use Rattle.std.specs.Prelude.{Ok, None}
use Prim.Native.Nat.{ℕ, ◌+◌, ◌-◌, ◌≤◌, ◌<◌}
use mathlib.Core.List.{List, [], ◌∷◌, ◌++◌}
use mathlib.Core.Logic.{◌⊎◌, inl, inr}
use mathlib.Core.Path.{◌≡◌, refl}
use native.Mathlib.Omega.{arith}
use native.Mathlib.Nat.{zero-add}
use lib.ListN.{length, get_or}
use lib.Dec.{ltb, eqb}
use Rattle.streaming.specs.Choose.{when◌then◌else◌}
use Rattle.streaming.specs.declared.ObjectRecord.{ObjectRecord}
use Rattle.streaming.specs.declared.Step.TheVariants as step
use Rattle.streaming.specs.declared.Fault.{Fault}
use Rattle.streaming.specs.declared.Fault.TheVariants as fault
use Rattle.streaming.specs.Answers.{Asked, Answer}
use Rattle.account.specs.Account.{Account, over, demand, framing, faulted, broken}
use Rattle.account.specs.Asking.{Turn, go, bad, span, spell}
use Rattle.account.specs.Statement.{part, Walker, Meets}
use Rattle.account.specs.Tidy.{Tidy, tidy_over}
use Rattle.account.proofs.Tidying.{tidy_spell, tidy_span, tidy_turn_if, tidy_bad}
use Rattle.account.proofs.Parts.{part_cons, same_or_not}
use Rattle.account.proofs.Walks.{Machine, Phase, Spelled, stop, lands_go, lands_bad, lands_if, phase_on, spelled_on}
use Rattle.account.proofs.Walking.{walker_of, walker_meets}

-- ---- the rules

abbrev pub given : List ℕ
given = 7 ∷ 8 ∷ []

abbrev pub other : Fault
other = fault.SectionSentinel 0

abbrev pub large : Fault
large = fault.ObjectSize 0

abbrev pub found : ℕ → ObjectRecord
found b = record { handle = 0; offset = 2; size = b; type_code = 0 }

abbrev pub number_turn : (limit b : ℕ) → Turn
number_turn limit b = when ltb b limit then go (Ok (step.Object (found b))) (over (Ok None)) else bad large

abbrev pub rules : (limit : ℕ) → List ℕ → Account
rules limit src = spell src 0 given other (go framing (span src 2 1 framing (number_turn limit (get_or src 2 0))))

abbrev pub Of : (limit : ℕ) → List ℕ → Type 0
Of limit src = length src ≡ 3

pub tidy : (limit : ℕ) (src : List ℕ) → Of limit src → Tidy src (rules limit src)
tidy limit src of =
    tidy_spell 0 7 (8 ∷ []) other _ λ k. tidy_span 2 0 framing _ tt λ k. tidy_turn_if (ltb (get_or src 2 0) limit) _ _ (λ e. tidy_over tt) (λ e. tidy_bad large)

-- ---- a walker

pub data State : Type 0 where
  giving : (limit done : ℕ) → State
  number : (limit : ℕ) → State
  ended : State
  failed : Fault → State

abbrev pub request_of : State → Asked
request_of (giving limit done) = demand done (2 - done)
request_of (number limit) = demand 2 1
request_of ended = Ok None
request_of (failed f) = broken f

-- by whether the piece has the given bytes
abbrev pub feed_given : (limit done : ℕ) (p : List ℕ) → (p ≡ part given done (length p)) ⊎ (p ≡ part given done (length p) → ⊥) → Answer × State
feed_given limit done p (inl e) = when eqb (done + length p) 2 then (framing, number limit) else (framing, giving limit (done + length p))
feed_given limit done p (inr e) = (faulted other, failed other)

abbrev pub feed_number : (limit b : ℕ) → Answer × State
feed_number limit b = when ltb b limit then (Ok (step.Object (found b)), ended) else (faulted large, failed large)

abbrev pub feed_of : State → List ℕ → Answer × State
feed_of (giving limit done) p = feed_given limit done p (same_or_not p (part given done (length p)))
feed_of (number limit) p = feed_number limit (get_or p 0 0)
feed_of ended p = (framing, ended)
feed_of (failed f) p = (faulted f, failed f)

abbrev pub machine : Machine
machine = record { State = State; request = request_of; feed = feed_of }

abbrev pub walker : Walker ℕ
walker = walker_of machine (λ limit. giving limit 0)

given_spelled : (limit : ℕ) → Spelled machine 0 given other (giving limit) (λ d. failed other) (λ d. (framing, number limit))
given_spelled limit =
    record {
      asking = λ d h. rw zero-add;
      taking = λ d p h l e. same-told d p e (same_or_not p (part given d (length p)));
      tearing = λ d p h l n. other_told d p n (same_or_not p (part given d (length p)));
      broke = λ d. refl;
    }
  where
    same-told : (d : ℕ) (p : List ℕ) → p ≡ part given d (length p) → (s : (p ≡ part given d (length p)) ⊎ (p ≡ part given d (length p) → ⊥))
        → feed_given limit d p s ≡ when eqb (d + length p) 2 then (framing, number limit) else (framing, giving limit (d + length p))
    same-told d p e (inl x) = refl
    same-told d p e (inr x) = absurd (x e)

    other_told : (d : ℕ) (p : List ℕ) → (p ≡ part given d (length p) → ⊥) → (s : (p ≡ part given d (length p)) ⊎ (p ≡ part given d (length p) → ⊥))
        → feed_given limit d p s ≡ (faulted other, failed other)
    other_told d p n (inl x) = absurd (n x)
    other_told d p n (inr x) = refl

-- its last byte, a demand of its own
number_phase : (limit : ℕ) → Phase machine 2 1 framing (λ q. number limit) (λ q w. feed_number limit (get_or w 0 0))
unfolding when◌then◌else◌
number_phase limit = record { asking = λ q h. asked_alone q h; taking = λ q p h k. taken_alone q p h k }
  where
    asked_alone : (q : List ℕ) → length q < 1 → demand 2 1 ≡ demand (2 + length q) (1 - length q)
    asked_alone [] h = refl
    asked_alone (b ∷ q) h = absurd (omega arith)

    taken_alone : (q p : List ℕ) → 0 < length p → length q + length p ≤ 1
        → feed_number limit (get_or p 0 0) ≡ when eqb (length q + length p) 1 then feed_number limit (get_or (q ++ p) 0 0) else (framing, number limit)
    taken_alone [] [] h k = absurd (omega arith)
    taken_alone [] (b ∷ []) h k = refl
    taken_alone [] (b ∷ c ∷ p) h k = absurd (omega arith)
    taken_alone (b ∷ q) p h k = absurd (omega arith)

pub meets : Meets Of rules walker
meets =
    walker_meets machine (λ limit. giving limit 0) Of rules λ limit src of.
    spelled_on machine src (given_spelled limit) (omega arith) λ k d.
    lands_go machine src (phase_on machine src (number_phase limit) (omega arith) λ l q.
    rw (part_cons src 2 0 (omega arith))
    (lands_if machine src (ltb (get_or src 2 0) limit) (λ e. lands_go machine src (stop refl tt)) (λ e. lands_bad machine src refl)))
