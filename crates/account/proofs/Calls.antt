-- Laws of one call on an account: when it is taken, what it leaves, and what it commits; and of the end of input.
use Rattle.std.specs.Prelude.{Ok, Err, Some, None}
use Prim.Native.Nat.{ℕ, ◌+◌, ◌≤◌, ◌<◌}
use mathlib.Core.Bool.{Bool, true, false, false≢true}
use mathlib.Core.List.{List, [], ◌∷◌}
use mathlib.Core.Path.{◌≡◌, refl, sym, ap}
use native.Mathlib.Omega.{arith}
use lib.ListN.{length}
use lib.Dec.{ltb, eqb}
use borrow.Author.Tests.{ltb-true, leb-true, eqb-true}
use Rattle.streaming.specs.Choose.{when◌then◌else◌}
use Rattle.streaming.specs.Record.{committed_in}
use Rattle.streaming.specs.Answers.{Asked}
use Rattle.streaming.proofs.Choose.{and_left, and_right}
use Rattle.account.specs.Account.{Account, demand, ask_of, passed, says_at, records_within}
use Rattle.account.specs.Statement.{Call, takes, refusal, answer_of, after, ended_by}
use Rattle.account.specs.Tidy.{Tidy}
use Rattle.account.proofs.Fronts.{says_at_lem, last_commits}

-- ---- takes

-- what is known of a call that is taken
pub record Taken (q : Asked) (c : Call) : Type 0 where
  pub left : ℕ
  pub asked : q ≡ demand c.offset left
  pub some : 0 < length c.piece
  pub fits : length c.piece ≤ left

pub taken : (q : Asked) (c : Call) → takes q c ≡ true → Taken q c
taken (Ok (Some r)) c e =
    let n = length c.piece in
    let more = and_right (eqb c.offset r.offset) _ e in
    record {
      left = r.len;
      asked = ap (λ (at : ℕ). demand at r.len) (sym (eqb-true c.offset r.offset (and_left (eqb c.offset r.offset) _ e)));
      some = ltb-true 0 n (and_left (ltb 0 n) _ more);
      fits = leb-true n r.len (and_right (ltb 0 n) _ more);
    }
taken (Ok None) c e = absurd (false≢true e)
taken (Err e') c e = absurd (false≢true e)

-- how many bytes a call takes
abbrev pub taking : Asked → Call → ℕ
taking q c = when takes q c then length c.piece else 0

-- ---- after

pub after-passed : (a : Account) (c : Call) → after a c ≡ passed (taking (ask_of a) c) a
unfolding after when◌then◌else◌
after-passed a c = both (takes (ask_of a) c)
  where
    both : (b : Bool) → (when b then passed (length c.piece) a else a) ≡ passed (when b then length c.piece else 0) a
    both true = refl
    both false = refl

-- a call that is not taken leaves the account as it is
pub after-refused : (a : Account) (c : Call) → takes (ask_of a) c ≡ false → after a c ≡ a
unfolding after when◌then◌else◌
after-refused a c e = rw e

-- ---- answer_of

pub answer-refused : (a : Account) (c : Call) → takes (ask_of a) c ≡ false → answer_of a c ≡ Err (refusal (ask_of a) c)
unfolding answer_of when◌then◌else◌
answer-refused a c e = rw e

some_commits : (p : List ℕ) {src : List ℕ} {a : Account} → Tidy src a → (at left : ℕ) → ask_of a ≡ demand at left → 0 < length p → length p ≤ left
    → committed_in (says_at (length p) a) ≡ records_within (length p) a
some_commits [] t at left e h l = absurd (omega arith)
some_commits (b ∷ bs) t at left e h l = last_commits (length bs) t at left e l

-- a call commits what its bytes do
pub answer_commits : {src : List ℕ} {a : Account} → Tidy src a → (c : Call) → committed_in (answer_of a c) ≡ records_within (taking (ask_of a) c) a
unfolding answer_of when◌then◌else◌ records_within
answer_commits {a = a} t c = split (takes (ask_of a) c) refl
  where
    split : (b : Bool) → takes (ask_of a) c ≡ b → committed_in (answer_of a c) ≡ records_within (taking (ask_of a) c) a
    split false e = rw e
    split true e = let k = taken (ask_of a) c e in rw e (some_commits c.piece t c.offset k.left k.asked k.some k.fits)

-- and that is what its last byte does
pub answer-last : (n : ℕ) (a : Account) (c : Call)
    → committed_in (answer_of (passed n a) c) ≡ when takes (ask_of (passed n a)) c then committed_in (says_at (n + length c.piece) a) else []
unfolding answer_of when◌then◌else◌
answer-last n a c = split (takes (ask_of (passed n a)) c) refl
  where
    split : (b : Bool) → takes (ask_of (passed n a)) c ≡ b
        → committed_in (answer_of (passed n a) c) ≡ when takes (ask_of (passed n a)) c then committed_in (says_at (n + length c.piece) a) else []
    split false e = rw e
    split true e = rw e (ap committed_in (says_at_lem n (length c.piece) a (taken (ask_of (passed n a)) c e).some))

-- ---- endedBy

-- the walk is whole only where nothing is asked
pub ended_whole : (q : Asked) → ended_by q ≡ Ok tt → q ≡ Ok None
ended_whole (Ok (Some r)) e = let z : ◌≡◌ {A = ℕ} 0 1 = cc in absurd (omega arith)
ended_whole (Ok None) e = refl
ended_whole (Err e') e = let z : ◌≡◌ {A = ℕ} 0 1 = cc in absurd (omega arith)
