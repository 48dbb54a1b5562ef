-- What every stage uses: an outcome leads where a turn says, by the same tests; a fault is held; a field and a checksum hold what the source has.
use Prim.Native.Nat.{ℕ, ◌+◌, ◌≤◌}
use mathlib.Core.Bool.{Bool, true, false}
use mathlib.Core.List.{List}
use mathlib.Core.Path.{◌≡◌, refl, sym, ap, ◌∙◌}
use native.Mathlib.Omega.{arith}
use lib.ListN.{length, take}
use lib.Seq.{sets}
use lib.Dec.{eqb}
use borrow.Author.Tests.{eqb-true, eqb-false, eq-eqb, ne_eqb}
use Rattle.crc.specs.Crc.{crc_of}
use Rattle.crc.proofs.Laws.{crc_append}
use Rattle.octets.proofs.Sets.{take-sets}
use Rattle.streaming.specs.Choose.{when◌then◌else◌}
use Rattle.streaming.specs.State.{failing, fell}
use Rattle.streaming.specs.declared.Fault.{Fault}
use Rattle.streaming.specs.Answers.{Answer}
use Rattle.streaming.specs.declared.FlatWalker.{FlatWalker}
use Rattle.streaming.specs.declared.Fed.{Fed}
use Rattle.account.specs.Account.{Account, over, broken}
use Rattle.account.specs.Asking.{Turn, bad}
use Rattle.account.specs.Statement.{part}
use Rattle.account.proofs.Parts.{length_part, part_add}
use Rattle.account.proofs.Walks.{On, stop, Lands, lands_bad}
use Rattle.streaming.proofs.Choose.{choose_alike}
use Rattle.stands.proofs.Bare.{outcome, bare, failing_asks}

-- ---- choices

-- two tests that hold for the same reason are the same
pub eqb_alike : (a b c d : ℕ) → (a ≡ b → c ≡ d) → (c ≡ d → a ≡ b) → eqb a b ≡ eqb c d
eqb_alike a b c d f g = split (eqb a b) refl
  where
    split : (t : Bool) → eqb a b ≡ t → eqb a b ≡ eqb c d
    split true e = e ∙ sym (eq-eqb c d (f (eqb-true a b e)))
    split false e = e ∙ sym (ne_eqb c d (λ q. eqb-false a b e (g q)))

pub outcome_if : (b : Bool) (x y : Fed) → outcome (when b then x else y) ≡ when b then outcome x else outcome y
outcome_if b x y = choose_alike outcome b (λ e. refl) (λ e. refl)

-- where the last of n bytes does as those before it
pub if_last : (x : ℕ → Answer × FlatWalker) (k n : ℕ) → x k ≡ when eqb k n then x n else x k
unfolding when◌then◌else◌
if_last x k n = split (eqb k n) refl
  where
    split : (b : Bool) → eqb k n ≡ b → x k ≡ when b then x n else x k
    split true e = ap x (eqb-true k n e)
    split false e = refl

-- a test that makes no difference
pub if_alike : (b : Bool) (x : Answer × FlatWalker) → x ≡ when b then x else x
unfolding when◌then◌else◌
if_alike true x = refl
if_alike false x = refl

-- ---- what is kept of a source

-- a field that n bytes were put into
pub field_at : (src f : List ℕ) (at n : ℕ) → at + n ≤ length src → n ≤ length f → take n (sets f 0 (part src at n)) ≡ part src at n
field_at src f at n h k = take-sets f (part src at n) n (length_part src at n (omega arith)) k

-- a checksum that goes on with the next m bytes
pub crc_at : (src : List ℕ) (c at n m : ℕ) → crc_of (crc_of c (part src at n)) (part src (at + n) m) ≡ crc_of c (part src at (n + m))
crc_at src c at n m = sym (crc_append c (part src at n) (part src (at + n) m)) ∙ ap (crc_of c) (part_add src at n m)

-- ---- turns

module _ (src : List ℕ) where
  abbrev pub Land : Fed → Turn → Type 0
  Land r t = Lands bare src (outcome r) t

  -- the machine and the rules make the same test
  pub land_if : (b : Bool) {x y : Fed} {t u : Turn} → (b ≡ true → Land x t) → (b ≡ false → Land y u) → Land (when b then x else y) (when b then t else u)
  unfolding when◌then◌else◌
  land_if true h k = h refl
  land_if false h k = k refl

  pub land_fell : (s : FlatWalker) (f : Fault) → Land (fell f s) (bad f)
  land_fell s f = lands_bad bare src (failing_asks s f)

  -- ---- states that are entered

  pub on_if : (b : Bool) {x y : FlatWalker} {a u : Account} → (b ≡ true → On bare src x a) → (b ≡ false → On bare src y u)
      → On bare src (when b then x else y) (when b then a else u)
  unfolding when◌then◌else◌
  on_if true h k = h refl
  on_if false h k = k refl

  pub on_failing : (s : FlatWalker) (f : Fault) → On bare src (failing s f) (over (broken f))
  on_failing s f = stop (failing_asks s f) tt
