-- Laws of an account's fronts: what its first n bytes commit, what is left behind them, and what the n-th says.
use Rattle.std.specs.Prelude.{Ok, Err, Some, None}
use Prim.Native.Nat.{ℕ, zero, suc, ◌+◌, ◌≤◌, ◌<◌}
use mathlib.Core.List.{List, [], ◌++◌, append_assoc, append-nil}
use mathlib.Core.Path.{◌≡◌, refl, sym}
use native.Mathlib.Omega.{arith}
use native.Mathlib.Nat.{zero-add, suc-add, add-suc}
use Rattle.streaming.specs.Record.{committed_in}
use Rattle.streaming.specs.declared.Step.TheVariants as step
use Rattle.streaming.specs.Answers.{Asked, Answer}
use Rattle.account.specs.Account.{Account, ask, over, demand, ask_of, passed, says_in, says_at, records_in, records_within, ending_of}
use Rattle.account.specs.Runs.{Past}
use Rattle.account.specs.Tidy.{Quiet, last, more, torn, Tidy, tidy_over, tidy_ask}
use Rattle.account.proofs.Asking.{demand-same}

-- ---- passed

pub passed-passed : (n k : ℕ) (a : Account) → passed k (passed n a) ≡ passed (n + k) a
passed-passed zero k a = rw zero-add
passed-passed (suc n) k (ask at left says rest) = rw suc-add (passed-passed n k rest)
passed-passed (suc n) zero (over q) = rw suc-add
passed-passed (suc n) (suc k) (over q) = rw suc-add

pub ending-passed : (n : ℕ) (a : Account) → ending_of (passed n a) ≡ ending_of a
unfolding ending_of
ending-passed zero a = refl
ending-passed (suc n) (ask at left says rest) = ending-passed n rest
ending-passed (suc n) (over q) = refl

pub tidy_passed : {src : List ℕ} (n : ℕ) {a : Account} → Tidy src a → Tidy src (passed n a)
tidy_passed zero t = t
tidy_passed (suc n) (tidy_over p) = tidy_over p
tidy_passed (suc n) (tidy_ask h j t) = tidy_passed n t

-- ---- recordsWithin

-- the records of two fronts, one behind the other
pub within_add : (n k : ℕ) (a : Account) → records_within n a ++ records_within k (passed n a) ≡ records_within (n + k) a
unfolding records_within
within_add zero k a = rw zero-add
within_add (suc n) k (ask at left says rest) = rw (suc-add, append_assoc, within_add n k rest)
within_add (suc n) zero (over q) = rw suc-add
within_add (suc n) (suc k) (over q) = rw suc-add

pub within-rest : (n : ℕ) (a : Account) → records_within n a ++ records_in (passed n a) ≡ records_in a
unfolding records_within records_in
within-rest zero a = refl
within-rest (suc n) (ask at left says rest) = rw (append_assoc, within-rest n rest)
within-rest (suc n) (over q) = refl

-- ---- saysAt

says-passed : (n k : ℕ) (a : Account) → says_at (suc k) (passed n a) ≡ says_at (suc (n + k)) a
says-passed zero k a = rw zero-add
says-passed (suc n) k (ask at left says rest) = rw suc-add (says-passed n k rest)
says-passed (suc n) k (over q) = refl

pub says_at_lem : (n k : ℕ) (a : Account) → 0 < k → says_at k (passed n a) ≡ says_at (n + k) a
says_at_lem n zero a h = absurd (omega arith)
says_at_lem n (suc k) a h = rw add-suc (says-passed n k a)

-- ---- of a demand's bytes only the last commits

quiet_commits : (s : Answer) → Quiet s → committed_in s ≡ []
quiet_commits (Ok step.Framing) q = refl
quiet_commits (Ok (step.Payload part)) q = refl
quiet_commits (Ok (step.Section r)) q = absurd q
quiet_commits (Ok (step.Object r)) q = absurd q
quiet_commits (Ok step.Finished) q = absurd q
quiet_commits (Err e) q = absurd q

end_commits : (q : Asked) → committed_in (says_in q) ≡ []
end_commits (Ok (Some r)) = refl
end_commits (Ok None) = refl
end_commits (Err e) = refl

pub last_commits : {src : List ℕ} (n : ℕ) {a : Account} → Tidy src a → (at left : ℕ) → ask_of a ≡ demand at left → suc n ≤ left
    → committed_in (says_at (suc n) a) ≡ records_within (suc n) a
unfolding records_within
last_commits n (tidy_over {q = q} p) at left e h = end_commits q
last_commits zero (tidy_ask {says = s} p j t) at left e h = sym (append-nil (committed_in s))
last_commits (suc n) (tidy_ask p last t) at left e h = absurd (omega (arith, demand-same e))
last_commits (suc n) (tidy_ask {at = place} {says = s} p (more {left = rest} quiet j) t) at left e h =
    rw (quiet_commits s quiet) (last_commits n t (suc place) rest j (omega (arith, demand-same e)))
last_commits (suc n) (tidy_ask p torn t) at left e h = refl

-- ---- the end

-- where the source has nothing of what is asked for, the account is at its end
pub past_over : {src : List ℕ} {a : Account} → Tidy src a → Past src (ask_of a) → (records_in a ≡ []) × (ask_of a ≡ ending_of a)
unfolding records_in ending_of
past_over (tidy_over p) h = (refl, refl)
past_over (tidy_ask p j t) h = absurd (omega arith)
