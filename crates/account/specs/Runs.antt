-- What a run of a walker is seen to do: the words of the promises.
use Rattle.std.specs.Prelude.{ℕ, ◌+◌, ◌≤◌, List, [], ◌∷◌, ◌++◌, ◌≡◌, length, Ok, Err, Some, None}
use Rattle.streaming.specs.Choose.{when◌then◌else◌}
use Rattle.streaming.specs.Record.{Record, committed_in}
use Rattle.streaming.specs.declared.Fault.{Fault}
use Rattle.streaming.specs.Answers.{Asked}
use Rattle.account.specs.Account.{Account, records_in, ending_of, bytes_taken, bytes_at_most, faulted, broken}
use Rattle.account.specs.Statement.{Call, takes, ended_by, Walker}

module _ {H : Type 0} (W : Walker H) where
  -- the state after some calls
  abbrev pub run : W.State → List Call → W.State
  run st [] = st
  run st (c ∷ cs) = run (W.feed st c).1 cs

  -- the bytes taken by them
  abbrev pub bytes : W.State → List Call → ℕ
  bytes st [] = 0
  bytes st (c ∷ cs) = (when takes (W.request st) c then length c.piece else 0) + bytes (W.feed st c).1 cs

  -- how many of them were taken
  abbrev pub accepted : W.State → List Call → ℕ
  accepted st [] = 0
  accepted st (c ∷ cs) = (when takes (W.request st) c then 1 else 0) + accepted (W.feed st c).1 cs

  -- the records that they committed, in order
  abbrev pub committed : W.State → List Call → List Record
  committed st [] = []
  committed st (c ∷ cs) = committed_in (W.feed st c).0 ++ committed (W.feed st c).1 cs

-- the source has nothing of what is asked for: a demand past its end, or no demand
abbrev pub Past : (src : List ℕ) → Asked → Type 0
Past src (Ok (Some r)) = length src ≤ r.offset
Past src (Ok None) = Unit {0}
Past src (Err e) = Unit {0}

-- a run from a state has all the records of an account, and ends as it does
pub record Whole {H : Type 0} (W : Walker H) (a : Account) (st : W.State) (cs : List Call) : Type 0 where
  pub records : committed W st cs ≡ records_in a
  pub request : W.request (run W st cs) ≡ ending_of a
  pub end_of_input : W.end_of_input (run W st cs) ≡ ended_by (ending_of a)

-- a run from a state takes no more than an account holds: so many calls, and so many bytes, the piece at fault whole; with no fault yet, byte for byte
pub record Bounded {H : Type 0} (W : Walker H) (a : Account) (st : W.State) (cs : List Call) : Type 0 where
  pub calls : accepted W st cs ≤ bytes_taken a
  pub at_most : bytes W st cs ≤ bytes_at_most a
  pub sound : ((f : Fault) → W.request (run W st cs) ≡ broken f → ⊥) → bytes W st cs ≤ bytes_taken a

-- in this state a fault is all that is heard, whatever the call
pub record Repeats {H : Type 0} (W : Walker H) (f : Fault) (st : W.State) : Type 0 where
  pub request : W.request st ≡ broken f
  pub feed : (c : Call) → (W.feed st c).0 ≡ faulted f
  pub end_of_input : W.end_of_input st ≡ ended_by (broken f)

-- one list begins another
pub record Front (records whole : List Record) : Type 0 where
  pub rest : List Record
  pub whole_is : records ++ rest ≡ whole

-- Two walkers, each in a state of its own, ask and answer alike: before every call, at every call, and behind the last one.
module _ {H : Type 0} (W X : Walker H) where
  pub record AskAlike (w : W.State) (x : X.State) : Type 0 where
    pub request : W.request w ≡ X.request x
    pub end_of_input : W.end_of_input w ≡ X.end_of_input x

  abbrev pub Alike : W.State → X.State → List Call → Type 0
  Alike w x [] = AskAlike w x
  Alike w x (c ∷ cs) = AskAlike w x × ((W.feed w c).0 ≡ (X.feed x c).0) × Alike (W.feed w c).1 (X.feed x c).1 cs
