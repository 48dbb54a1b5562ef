-- What was heard of a walk, call by call, and what there is to count in it: plain sums over the list.
use Rattle.std.specs.Prelude.{ℕ, ◌+◌, Bool, true, false, List, [], ◌∷◌, ◌++◌, eqb, Ok, Err, Some, None}
use Rattle.streaming.specs.Choose.{when◌then◌else◌}
use Rattle.streaming.specs.Record.{Record, section, object, committed_in}
use Rattle.streaming.specs.declared.Step.{Step}
use Rattle.streaming.specs.declared.Step.TheVariants as step
use Rattle.streaming.specs.declared.StreamError.{StreamError}
use Rattle.streaming.specs.declared.StreamError.TheVariants as error
use Rattle.streaming.specs.Answers.{Answer, Failure}
use Rattle.rules.specs.Payload.{kept_behind}

-- a call: the failure that was held before it, the answer, and the length of the piece that it brought
pub record Heard : Type 0 where
  pub held : Failure
  pub answer : Answer
  pub length : ℕ

abbrev pub heard : Failure → Answer → ℕ → Heard
heard held answer length = record { held = held; answer = answer; length = length }

-- ---- what became of the piece

-- none of it was taken, or all of it: as framing, or as payload
pub data Taken : Type 0 where
  not_taken as_framing as_payload : Taken

abbrev pub step_takes : Step → Taken
step_takes step.Framing = as_framing
step_takes (step.Payload part) = as_payload
step_takes (step.Section r) = as_framing
step_takes (step.Object r) = as_framing
step_takes step.Finished = as_framing

-- a fault that was not held before the call came with its piece; one that was held is only said again
abbrev pub fault_takes : Failure → Taken
fault_takes None = as_framing
fault_takes (Some f) = not_taken

abbrev pub refusal_takes : Failure → StreamError → Taken
refusal_takes held (error.LocatorCount count) = not_taken
refusal_takes held (error.LocatorRange number) = not_taken
refusal_takes held error.Finished = not_taken
refusal_takes held (error.WrongOffset expected actual) = not_taken
refusal_takes held (error.InvalidFeed maximum actual) = not_taken
refusal_takes held (error.Truncated offset needed) = not_taken
refusal_takes held (error.Fault f) = fault_takes held
refusal_takes held (error.NoRoom needed) = not_taken
refusal_takes held error.BadState = not_taken

-- A piece is accepted where it is answered by a step, or by a fault that was not held before: then the piece brought it. It is payload where the step
-- says so, and framing else, the piece at fault too. Every other refusal takes nothing.
abbrev pub taken_as : Failure → Answer → Taken
taken_as held (Ok s) = step_takes s
taken_as held (Err e) = refusal_takes held e

abbrev pub is_accepted : Taken → Bool
is_accepted not_taken = false
is_accepted as_framing = true
is_accepted as_payload = true

-- ---- bytes of one call

abbrev pub accepted_bytes : Taken → ℕ → ℕ
accepted_bytes not_taken n = 0
accepted_bytes as_framing n = n
accepted_bytes as_payload n = n

abbrev pub framing_bytes : Taken → ℕ → ℕ
framing_bytes not_taken n = 0
framing_bytes as_framing n = n
framing_bytes as_payload n = 0

abbrev pub payload_bytes : Taken → ℕ → ℕ
payload_bytes not_taken n = 0
payload_bytes as_framing n = 0
payload_bytes as_payload n = n

abbrev pub bytes_of : Heard → ℕ
bytes_of h = accepted_bytes (taken_as h.held h.answer) h.length

abbrev pub framing_of : Heard → ℕ
framing_of h = framing_bytes (taken_as h.held h.answer) h.length

abbrev pub payload_of : Heard → ℕ
payload_of h = payload_bytes (taken_as h.held h.answer) h.length

-- ---- bytes of a history

unfoldable pub total : (Heard → ℕ) → List Heard → ℕ
total of [] = 0
total of (h ∷ hs) = of h + total of hs

abbrev pub bytes_in : List Heard → ℕ
bytes_in = total bytes_of

abbrev pub framing_in : List Heard → ℕ
framing_in = total framing_of

abbrev pub payload_in : List Heard → ℕ
payload_in = total payload_of

-- the payload behind the last commit, of which so much was taken before: that of the unit still open or failed
unfoldable pub open_payload : (taken : ℕ) → List Heard → ℕ
open_payload taken [] = taken
open_payload taken (h ∷ hs) = open_payload (kept_behind (committed_in h.answer) (taken + payload_of h)) hs

-- ---- objects

-- the handles of the objects among some records, in their order
unfoldable pub handles_of : List Record → List ℕ
handles_of [] = []
handles_of (section r ∷ rs) = handles_of rs
handles_of (object r ∷ rs) = r.handle ∷ handles_of rs

-- the handles of the objects that were committed, in the order of the walk
unfoldable pub handles_in : List Heard → List ℕ
handles_in [] = []
handles_in (h ∷ hs) = handles_of (committed_in h.answer) ++ handles_in hs

-- A repeat is an object whose handle equals that of the object just before.
unfoldable pub repeats : List ℕ → ℕ
repeats [] = 0
repeats (x ∷ []) = 0
repeats (x ∷ y ∷ more) = (when eqb x y then 1 else 0) + repeats (y ∷ more)
