-- A well-formed account: it asks only for bytes that the source has, demand by demand, and within a demand only the last byte says anything that a
-- caller would act on, but for a fault.
use Rattle.std.specs.Prelude.{ℕ, suc, ◌<◌, List, ◌≡◌, length, Ok, Err}
use Rattle.streaming.specs.declared.Step.TheVariants as step
use Rattle.streaming.specs.declared.Fault.{Fault}
use Rattle.streaming.specs.Answers.{Asked, Answer}
use Rattle.account.specs.Account.{Account, ask, over, ask_of, demand, faulted, broken}
use Rattle.account.specs.Runs.{Past}

-- says nothing that a caller would act on
abbrev pub Quiet : Answer → Type 0
Quiet (Ok step.Framing) = Unit {0}
Quiet (Ok (step.Payload part)) = Unit {0}
Quiet (Ok (step.Section r)) = ⊥
Quiet (Ok (step.Object r)) = ⊥
Quiet (Ok step.Finished) = ⊥
Quiet (Err e) = ⊥

-- how a byte of a demand is followed: it is the demand's last; or it is quiet and the rest of the demand follows; or it is at fault
pub data Joined : (at left : ℕ) → Answer → Account → Type 0 where
  last : {at : ℕ} {says : Answer} {rest : Account} → Joined at 1 says rest
  more : {at left : ℕ} {says : Answer} {rest : Account} → Quiet says → ask_of rest ≡ demand (suc at) left → Joined at (suc left) says rest
  torn : {at left : ℕ} {f : Fault} → Joined at left (faulted f) (over (broken f))

pub data Tidy (src : List ℕ) : Account → Type 0 where
  tidy_over : {q : Asked} → Past src q → Tidy src (over q)
  tidy_ask : {at left : ℕ} {says : Answer} {rest : Account} → at < length src → Joined at left says rest → Tidy src rest → Tidy src (ask at left says rest)
