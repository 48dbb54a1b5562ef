-- A machine that takes pieces meets the rules, if each of its demands is told once: what it asks for behind any bytes of the demand, and what
-- any piece behind them does, wherever it is cut.
use Prim.Native.Nat.{ℕ, suc, ◌+◌, ◌-◌, ◌≤◌, ◌<◌}
use mathlib.Core.Bool.{Bool, true, false}
use mathlib.Core.List.{List, [], ◌∷◌, ◌++◌}
use mathlib.Core.Logic.{◌⊎◌, inl, inr}
use mathlib.Core.Path.{◌≡◌, refl, sym, ap, ap₂, ◌∙◌, subst}
use native.Mathlib.Omega.{arith}
use lib.ListN.{length, drop, length-drop, drop_of_length-le}
use lib.Dec.{eqb}
use lib.Seq.{drop-drop}
use borrow.Author.Tests.{eqb-true, eqb-false}
use Rattle.streaming.specs.Choose.{when◌then◌else◌}
use Rattle.streaming.specs.declared.Fault.{Fault}
use Rattle.streaming.specs.Answers.{Asked, Answer}
use Rattle.account.specs.Account.{Account, over, demand, framing, faulted, broken, ask_of, passed, says_at}
use Rattle.account.specs.Asking.{Turn, go, bad, span, spell}
use Rattle.account.specs.Runs.{Past}
use Rattle.account.specs.Statement.{part}
use Rattle.account.proofs.Asking.{demand-same, span_asks_some, spell_asks_some}
use Rattle.account.proofs.Demands.{span-passed, span_last, span_plain, spell-passed, spell_last, spell_plain, spell_breaks}
use Rattle.account.proofs.Parts.{length_part, part-inside, part_add, same_or_not}

-- what a machine asks for, and what it does with a piece that it takes
pub record Machine : Type 1 where
  pub State : Type 0
  pub request : State → Asked
  pub feed : State → List ℕ → Answer × State

module _ (M : Machine) where
  -- n bytes at a place: behind the bytes q the machine is in `mid q`, and a piece that is the rest of them all, w, leads from there to `fin q w`
  -- (a state that fails there may still show where the last piece began)
  pub record Phase (at n : ℕ) (plain : Answer) (mid : List ℕ → M.State) (fin : (q w : List ℕ) → Answer × M.State) : Type 0 where
    pub asking : (q : List ℕ) → length q < n → M.request (mid q) ≡ demand (at + length q) (n - length q)
    pub taking : (q p : List ℕ) → 0 < length p → length q + length p ≤ n
        → M.feed (mid q) p ≡ when eqb (length q + length p) n then fin q (q ++ p) else (plain, mid (q ++ p))

  -- given bytes at a place: behind d of them the machine is in `mid d`, and the rest of them leads from there to `fin d`, another byte to `gone d`
  pub record Spelled (at : ℕ) (ws : List ℕ) (f : Fault) (mid gone : ℕ → M.State) (fin : ℕ → Answer × M.State) : Type 0 where
    pub asking : (d : ℕ) → d < length ws → M.request (mid d) ≡ demand (at + d) (length ws - d)
    pub taking : (d : ℕ) (p : List ℕ) → 0 < length p → d + length p ≤ length ws → p ≡ part ws d (length p)
        → M.feed (mid d) p ≡ when eqb (d + length p) (length ws) then fin d else (framing, mid (d + length p))
    pub tearing : (d : ℕ) (p : List ℕ) → 0 < length p → d + length p ≤ length ws → (p ≡ part ws d (length p) → ⊥)
        → M.feed (mid d) p ≡ (faulted f, gone d)
    pub broke : (d : ℕ) → M.request (gone d) ≡ broken f

  module _ (src : List ℕ) where
    -- from this state on, the machine goes through the source as the account says
    pub data On : M.State → Account → Type 0 where
      stop : {st : M.State} {q : Asked} → M.request st ≡ q → Past src q → On st (over q)
      amid : {at n : ℕ} {plain : Answer} {mid : List ℕ → M.State} {fin : (q w : List ℕ) → Answer × M.State} {t : Turn} {st : M.State} {a : Account}
          → Phase at n plain mid fin → (d : ℕ) → d < n → d ≤ length src - at → st ≡ mid (part src at d) → a ≡ span src (at + d) (n - d) plain t
          → (at + n ≤ length src → (q : List ℕ) → (fin q (part src at n)).0 ≡ t.says)
          → (at + n ≤ length src → (q : List ℕ) → On (fin q (part src at n)).1 t.rest) → On st a
      spelling : {at : ℕ} {ws : List ℕ} {f : Fault} {mid gone : ℕ → M.State} {fin : ℕ → Answer × M.State} {t : Turn} {st : M.State} {a : Account}
          → Spelled at ws f mid gone fin → (d : ℕ) → d < length ws → st ≡ mid d → a ≡ spell src (at + d) (drop d ws) f t
          → (at + length ws ≤ length src → (d : ℕ) → (fin d).0 ≡ t.says) → (at + length ws ≤ length src → (d : ℕ) → On (fin d).1 t.rest) → On st a

    -- ---- what is asked

    pub on_asks : {st : M.State} {a : Account} → On st a → M.request st ≡ ask_of a
    on_asks (stop e h) = e
    on_asks (amid {at = at} {n = n} {plain = plain} {t = t} p d l b es ea says goes) =
        let k : length (part src at d) ≡ d = length_part src at d b in
        rw (es, ea) (p.asking (part src at d) (omega arith) ∙ ap₂ demand (omega arith) (omega arith)
        ∙ sym (span_asks_some src (at + d) (n - d) plain t (omega arith)))
    on_asks (spelling {at = at} {ws = ws} {f = f} {t = t} p d l es ea says goes) =
        let k : length (drop d ws) ≡ length ws - d = length-drop d ws in
        rw (es, ea) (p.asking d l ∙ ap₂ demand refl (sym k) ∙ sym (spell_asks_some src (at + d) (drop d ws) f t (omega arith)))

    -- ---- what a piece does

    pub record Goes (st : M.State) (a : Account) (p : List ℕ) : Type 0 where
      pub says : (M.feed st p).0 ≡ says_at (length p) a
      pub on : On (M.feed st p).1 (passed (length p) a)

    -- of an outcome that is known
    goes_to : {st : M.State} {a : Account} {p : List ℕ} (r : Answer × M.State) → M.feed st p ≡ r → r.0 ≡ says_at (length p) a
        → On r.1 (passed (length p) a) → Goes st a p
    goes_to r e s o = record { says = ap (λ (x : Answer × M.State). x.0) e ∙ s; on = rw e o }

    amid_goes : {at n : ℕ} {plain : Answer} {mid : List ℕ → M.State} {fin : (q w : List ℕ) → Answer × M.State} (t : Turn)
        → Phase at n plain mid fin → (d : ℕ) → d < n → d ≤ length src - at
        → (at + n ≤ length src → (q : List ℕ) → (fin q (part src at n)).0 ≡ t.says)
        → (at + n ≤ length src → (q : List ℕ) → On (fin q (part src at n)).1 t.rest)
        → (b : ℕ) (bs : List ℕ) → suc (length bs) ≤ n - d → (b ∷ bs) ≡ part src (at + d) (suc (length bs))
        → Goes (mid (part src at d)) (span src (at + d) (n - d) plain t) (b ∷ bs)
    unfolding span when◌then◌else◌
    amid_goes {at} {n} {plain} {mid} {fin} t p d l r says goes b bs h e = split (eqb (d + suc (length bs)) n) refl
      where
        k : ℕ
        k = suc (length bs)

        q : length (part src at d) ≡ d
        q = length_part src at d r

        inside : at + d + k ≤ length src
        inside = part-inside src (at + d) (b ∷ bs) e (omega arith)

        joined : part src at d ++ (b ∷ bs) ≡ part src at (d + k)
        joined = ap (λ (x : List ℕ). part src at d ++ x) e ∙ part_add src at d k

        fed : M.feed (mid (part src at d)) (b ∷ bs) ≡ when eqb (d + k) n then fin (part src at d) (part src at (d + k)) else (plain, mid (part src at (d + k)))
        fed = p.taking (part src at d) (b ∷ bs) (omega arith) (omega (arith, q)) ∙ rw (q, joined)

        split : (v : Bool) → eqb (d + k) n ≡ v → Goes (mid (part src at d)) (span src (at + d) (n - d) plain t) (b ∷ bs)
        split true v =
            let w : d + k ≡ n = eqb-true (d + k) n v in
            let m : n - d ≡ k = omega arith in
            let z : k - k ≡ 0 = omega arith in
            goes_to (fin (part src at d) (part src at n)) (fed ∙ rw (v, w))
            (says (omega (arith, inside)) (part src at d) ∙ sym (rw m (span_last src plain t (length bs) (at + d) inside)))
            (rw (m, span-passed src plain t k k (at + d) (omega arith) inside, z) (goes (omega (arith, inside)) (part src at d)))
        split false v =
            let w : d + k < n = omega (arith, eqb-false (d + k) n v) in
            goes_to (plain, mid (part src at (d + k))) (fed ∙ rw v) (sym (span_plain src plain t (length bs) (n - d) (at + d) (omega arith) inside))
            (amid {t = t} p (d + k) w (omega (arith, inside)) refl
            (let x : at + d + k ≡ at + (d + k) = omega arith in
            let y : n - d - k ≡ n - (d + k) = omega arith in
            span-passed src plain t k (n - d) (at + d) (omega arith) inside ∙ rw (x, y)) says goes)

    spelling_goes : {at : ℕ} {ws : List ℕ} {f : Fault} {mid gone : ℕ → M.State} {fin : ℕ → Answer × M.State} (t : Turn)
        → Spelled at ws f mid gone fin → (d : ℕ) → d < length ws
        → (at + length ws ≤ length src → (d : ℕ) → (fin d).0 ≡ t.says) → (at + length ws ≤ length src → (d : ℕ) → On (fin d).1 t.rest)
        → (b : ℕ) (bs : List ℕ) → suc (length bs) ≤ length ws - d → (b ∷ bs) ≡ part src (at + d) (suc (length bs))
        → Goes (mid d) (spell src (at + d) (drop d ws) f t) (b ∷ bs)
    unfolding spell when◌then◌else◌
    spelling_goes {at} {ws} {f} {mid} {gone} {fin} t p d l says goes b bs h e = split (same_or_not (b ∷ bs) (part ws d (suc (length bs))))
      where
        k : ℕ
        k = suc (length bs)

        m : length (drop d ws) ≡ length ws - d
        m = length-drop d ws

        inside : at + d + k ≤ length src
        inside = part-inside src (at + d) (b ∷ bs) e (omega arith)

        whole : (v : Bool) → eqb (d + k) (length ws) ≡ v → (b ∷ bs) ≡ part ws d k → Goes (mid d) (spell src (at + d) (drop d ws) f t) (b ∷ bs)
        whole true v x =
            let w : d + k ≡ length ws = eqb-true (d + k) (length ws) v in
            let y : length (drop d ws) ≡ k = omega (arith, m) in
            goes_to (fin d) (p.taking d (b ∷ bs) (omega arith) (omega arith) x ∙ rw v)
            (says (omega (arith, inside)) d ∙ sym (spell_last src f t (length bs) (at + d) (drop d ws) y inside (sym e ∙ x)))
            (rw (spell-passed src f t k (at + d) (drop d ws) (omega (arith, y)) inside (sym e ∙ x), drop_of_length-le (drop d ws) {i = k} (omega (arith, y)))
            (goes (omega (arith, inside)) d))
        whole false v x =
            let w : d + k < length ws = omega (arith, eqb-false (d + k) (length ws) v) in
            goes_to (framing, mid (d + k)) (p.taking d (b ∷ bs) (omega arith) (omega arith) x ∙ rw v)
            (sym (spell_plain src f t (length bs) (at + d) (drop d ws) (omega (arith, m)) inside (sym e ∙ x)))
            (spelling {t = t} p (d + k) w refl
            (spell-passed src f t k (at + d) (drop d ws) (omega (arith, m)) inside (sym e ∙ x)
            ∙ (let x : at + d + k ≡ at + (d + k) = omega arith in rw (x, drop-drop k d ws))) says goes)

        split : ((b ∷ bs) ≡ part ws d k) ⊎ ((b ∷ bs) ≡ part ws d k → ⊥) → Goes (mid d) (spell src (at + d) (drop d ws) f t) (b ∷ bs)
        split (inl x) = whole (eqb (d + k) (length ws)) refl x
        split (inr x) =
            let z = spell_breaks src f t (length bs) (at + d) (drop d ws) (omega (arith, m)) inside (λ y. x (e ∙ y)) in
            goes_to (faulted f, gone d) (p.tearing d (b ∷ bs) (omega arith) (omega arith) x) (sym z.says) (rw z.rest (stop (p.broke d) tt))

    pub on_takes : {st : M.State} {a : Account} → On st a → (at left : ℕ) → ask_of a ≡ demand at left → (p : List ℕ) → 0 < length p → length p ≤ left
        → p ≡ part src at (length p) → Goes st a p
    on_takes o at left q [] h l e = absurd (omega arith)
    on_takes (stop r past) at left q (b ∷ bs) h l e =
        let z : length src ≤ at = subst (Past src) q past in absurd (omega (arith, part-inside src at (b ∷ bs) e (omega arith)))
    on_takes (amid {at = at'} {n = n} {plain = plain} {t = t} p d m r es ea says goes) at left q (b ∷ bs) h l e =
        let same = demand-same (sym (span_asks_some src (at' + d) (n - d) plain t (omega arith)) ∙ rw ea at q) in
        rw (es, ea) (amid_goes t p d m r says goes b bs (omega (arith, same.1)) (rw (← same.0) at e))
    on_takes (spelling {at = at'} {ws = ws} {f = f} {t = t} p d m es ea says goes) at left q (b ∷ bs) h l e =
        let k : length (drop d ws) ≡ length ws - d = length-drop d ws in
        let same = demand-same (sym (spell_asks_some src (at' + d) (drop d ws) f t (omega arith)) ∙ rw ea at q) in
        rw (es, ea) (spelling_goes t p d m says goes b bs (omega (arith, same.1)) (rw (← same.0) at e))

    -- ---- a demand from its first byte on

    -- an outcome leads to where a turn says
    pub record Lands (r : Answer × M.State) (t : Turn) : Type 0 where
      pub says : r.0 ≡ t.says
      pub on : On r.1 t.rest

    pub lands_go : {st : M.State} {says : Answer} {a : Account} → On st a → Lands (says, st) (go says a)
    lands_go o = record { says = refl; on = o }

    pub lands_bad : {st : M.State} {f : Fault} → M.request st ≡ broken f → Lands (faulted f, st) (bad f)
    lands_bad e = record { says = refl; on = stop e tt }

    -- the machine and the rules make the same test
    pub lands_if : (b : Bool) {r r' : Answer × M.State} {t t' : Turn} → (b ≡ true → Lands r t) → (b ≡ false → Lands r' t')
        → Lands (when b then r else r') (when b then t else t')
    unfolding when◌then◌else◌
    lands_if true x y = x refl
    lands_if false x y = y refl

    pub phase_on : {at n : ℕ} {plain : Answer} {mid : List ℕ → M.State} {fin : (q w : List ℕ) → Answer × M.State} {t : Turn}
        → Phase at n plain mid fin → 0 < n → (at + n ≤ length src → (q : List ℕ) → Lands (fin q (part src at n)) t)
        → On (mid []) (span src at n plain t)
    phase_on {at} {n} {plain} {t = t} p h l =
        let x : at + 0 ≡ at = omega arith in
        let y : n - 0 ≡ n = omega arith in
        amid {t = t} {a = span src at n plain t} p 0 h (omega arith) refl (rw (x, y)) (λ k q. (l k q).says) (λ k q. (l k q).on)

    pub spelled_on : {at : ℕ} {ws : List ℕ} {f : Fault} {mid gone : ℕ → M.State} {fin : ℕ → Answer × M.State} {t : Turn}
        → Spelled at ws f mid gone fin → 0 < length ws → (at + length ws ≤ length src → (d : ℕ) → Lands (fin d) t) → On (mid 0) (spell src at ws f t)
    spelled_on {at} {ws} {f} {t = t} p h l =
        let x : at + 0 ≡ at = omega arith in
        spelling {t = t} {a = spell src at ws f t} p 0 h refl (rw x) (λ k q. (l k q).says) (λ k q. (l k q).on)
