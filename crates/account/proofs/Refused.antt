-- Calls that are refused: one that does not fit changes nothing, and behind a fault every call is answered by the fault.
use Rattle.std.specs.Prelude.{Err}
use Prim.Native.Nat.{ℕ}
use mathlib.Core.Bool.{false, false≢true}
use mathlib.Core.List.{List, [], ◌∷◌}
use mathlib.Core.Path.{◌≡◌, refl, sym, ap, ◌∙◌, subst}
use native.Mathlib.Omega.{arith}
use Rattle.streaming.specs.declared.Fault.{Fault}
use Rattle.account.specs.Account.{Account, ask, over, ask_of, broken}
use Rattle.account.specs.Statement.{Call, takes, refusal, Walker, HonestCall, Honest}
use Rattle.account.specs.Runs.{run, Alike, Repeats}
use Rattle.account.proofs.Calls.{after-refused, answer-refused}
use Rattle.account.proofs.Does.{Does, asks, answers, does_after}
use Rattle.account.proofs.Unique.{alike}

-- an account that asks about a fault is at its end
fault_over : (a : Account) (f : Fault) → ask_of a ≡ broken f → a ≡ over (broken f)
fault_over (ask at left says rest) f e = let z : ◌≡◌ {A = ℕ} 0 1 = cc in absurd (omega arith)
fault_over (over q) f e = ap over e

module _ {H : Type 0} (W : Walker H) {src : List ℕ} where
  module _ (st : W.State) (a : Account) (does : Does W src st a) (c : Call) (no : takes (W.request st) c ≡ false) where
    not_taken : takes (ask_of a) c ≡ false
    not_taken = rw (← (asks W st a does).request) no

    pub refuses : (W.feed st c).0 ≡ Err (refusal (W.request st) c)
    refuses = answers W st a does c (λ e. absurd (false≢true (sym no ∙ e))) ∙ answer-refused a c not_taken ∙ rw (asks W st a does).request

    -- the state behind it asks and answers as the one before it
    pub unseen : (ds : List Call) → Honest W src st ds → Alike W W st (W.feed st c).1 ds
    unseen ds h =
        alike W W ds st (W.feed st c).1 a does
        (subst (Does W src (W.feed st c).1) (after-refused a c not_taken) (does_after W st a does c (λ e. absurd (false≢true (sym no ∙ e))))) h

module _ {H : Type 0} (W : Walker H) (src : List ℕ) (f : Fault) where
  abbrev Broke : W.State → Type 0
  Broke st = Does W src st (over (broken f))

  -- no call is taken any more
  fair : (st : W.State) → Broke st → (c : Call) → HonestCall W src st c
  fair st d c e = absurd (false≢true (rw (asks W st (over (broken f)) d).request at e))

  stays : (ds : List Call) (st : W.State) → Broke st → Broke (run W st ds)
  stays [] st d = d
  stays (c ∷ ds) st d =
      stays ds (W.feed st c).1
      (subst (Does W src (W.feed st c).1) (after-refused (over (broken f)) c refl) (does_after W st (over (broken f)) d c (fair st d c)))

  heard : (st : W.State) → Broke st → Repeats W f st
  heard st d =
      record {
        request = (asks W st (over (broken f)) d).request;
        feed = λ c. answers W st (over (broken f)) d c (fair st d c) ∙ answer-refused (over (broken f)) c refl;
        end_of_input = (asks W st (over (broken f)) d).end_of_input;
      }

  pub repeats : (st : W.State) (a : Account) → Does W src st a → W.request st ≡ broken f → (ds : List Call) → Repeats W f (run W st ds)
  repeats st a d e ds = heard (run W st ds) (stays ds st (subst (Does W src st) (fault_over a f (sym (asks W st a d).request ∙ e)) d))
