-- A committed record stands: what a walker has committed is what the account commits in the bytes taken.
use Rattle.std.specs.Prelude.{Ok}
use Prim.Native.Nat.{ℕ, ◌+◌, ◌-◌, ◌≤◌}
use mathlib.Core.Bool.{Bool, true, false}
use mathlib.Core.List.{List, [], ◌∷◌, ◌++◌, append-nil}
use mathlib.Core.Logic.{◌⊎◌, inl, inr}
use mathlib.Core.Path.{◌≡◌, refl, sym, ap, ap₂, ◌∙◌, subst}
use native.Mathlib.Omega.{arith}
use lib.ListN.{length}
use lib.Dec.{leb}
use borrow.Author.Tests.{leb-true, leb-false}
use Rattle.streaming.specs.Choose.{when◌then◌else◌}
use Rattle.streaming.specs.Record.{committed_in}
use Rattle.account.specs.Account.{Account, ask_of, passed, says_at, records_in, records_within, ending_of}
use Rattle.account.specs.Statement.{Call, takes, ended_by, Walker, HonestCall, Honest, Follows}
use Rattle.account.specs.Runs.{run, bytes, committed, Past, Whole, Front}
use Rattle.account.specs.Tidy.{Tidy}
use Rattle.account.proofs.Fronts.{within_add, within-rest, tidy_passed, ending-passed, past_over}
use Rattle.account.proofs.Calls.{taking, after-passed, answer_commits, answer-last, ended_whole}
use Rattle.account.proofs.Does.{Does, asks, answers, does_run}

module _ {H : Type 0} (W : Walker H) {src : List ℕ} where
  commits : (cs : List Call) {a : Account} (st : W.State) → Tidy src a → Follows W st a cs → committed W st cs ≡ records_within (bytes W st cs) a
  unfolding records_within
  commits [] st t f = refl
  commits (c ∷ cs) {a} st t f =
      let k : ℕ = taking (ask_of a) c in
      let z = commits cs (W.feed st c).1 (tidy_passed k t) (rw (after-passed a c) at f.2) in
      rw (f.0.request, f.1) (ap₂ ◌++◌ (answer_commits t c) z ∙ within_add k _ a)

  module _ {a : Account} (tidy : Tidy src a) (st : W.State) (does : Does W src st a) where
    pub within : (cs : List Call) → Honest W src st cs → committed W st cs ≡ records_within (bytes W st cs) a
    within cs h = commits cs st tidy (does cs h)

    -- (a) it begins the account's list
    pub begins : (cs : List Call) → Honest W src st cs → committed W st cs ++ records_in (passed (bytes W st cs) a) ≡ records_in a
    begins cs h = rw (within cs h) (within-rest (bytes W st cs) a)

    pub front : (cs : List Call) → Honest W src st cs → Front (committed W st cs) (records_in a)
    front cs h = record { rest = records_in (passed (bytes W st cs) a); whole_is = begins cs h }

    -- (b) the call that takes a record's last byte commits it
    pub last_byte : (cs : List Call) → Honest W src st cs → (c : Call) → HonestCall W src (run W st cs) c
        → committed_in (W.feed (run W st cs) c).0
        ≡ when takes (W.request (run W st cs)) c then committed_in (says_at (bytes W st cs + length c.piece) a) else []
    last_byte cs h c k =
        let d = does_run W cs st a does h in
        rw ((asks W (run W st cs) _ d).request, answers W (run W st cs) _ d c k) (answer-last (bytes W st cs) a c)

    -- (c) a run with nothing more to take has the whole list and the account's ending
    pub whole : (cs : List Call) → Honest W src st cs → Past src (W.request (run W st cs)) → Whole W a st cs
    whole cs h p =
        let q = asks W (run W st cs) _ (does_run W cs st a does h) in
        let z = past_over (tidy_passed (bytes W st cs) tidy) (rw q.request at p) in
        let e : ask_of (passed (bytes W st cs) a) ≡ ending_of a = z.1 ∙ ending-passed (bytes W st cs) a in
        record {
          records = sym (append-nil _) ∙ rw z.0 at (begins cs h);
          request = q.request ∙ e;
          end_of_input = q.end_of_input ∙ ap ended_by e;
        }

    pub told-whole : (cs : List Call) → Honest W src st cs → W.end_of_input (run W st cs) ≡ Ok tt → Whole W a st cs
    told-whole cs h e =
        let q = asks W (run W st cs) _ (does_run W cs st a does h) in
        whole cs h (subst (Past src) (sym (q.request ∙ ended_whole _ (sym q.end_of_input ∙ e))) tt)

    -- (d) of two runs, the one that has taken more bytes has committed all that the other has
    pub further : (cs ds : List Call) → Honest W src st cs → Honest W src st ds → bytes W st cs ≤ bytes W st ds → Front (committed W st cs) (committed W st ds)
    further cs ds h k l =
        let n = bytes W st cs in
        let m = bytes W st ds - n in
        let e : n + m ≡ bytes W st ds = omega arith in
        record {
          rest = records_within m (passed n a);
          whole_is = rw (within cs h, within ds k) (within_add n m a ∙ ap (λ (x : ℕ). records_within x a) e);
        }

    pub either_way : (cs ds : List Call) → Honest W src st cs → Honest W src st ds
        → Front (committed W st cs) (committed W st ds) ⊎ Front (committed W st ds) (committed W st cs)
    either_way cs ds h k = split (leb (bytes W st cs) (bytes W st ds)) refl
      where
        split : (b : Bool) → leb (bytes W st cs) (bytes W st ds) ≡ b
            → Front (committed W st cs) (committed W st ds) ⊎ Front (committed W st ds) (committed W st cs)
        split true e = inl (further cs ds h k (leb-true (bytes W st cs) (bytes W st ds) e))
        split false e = inr (further ds cs k h (omega (arith, leb-false (bytes W st cs) (bytes W st ds) e)))

    pub as_far : (cs ds : List Call) → Honest W src st cs → Honest W src st ds → bytes W st cs ≡ bytes W st ds → committed W st cs ≡ committed W st ds
    as_far cs ds h k e = within cs h ∙ ap (λ (n : ℕ). records_within n a) e ∙ sym (within ds k)
