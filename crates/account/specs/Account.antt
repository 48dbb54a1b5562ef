-- The account of a walk over a whole source: what is asked for and what is said, byte by byte. Cuts and calls have no place in it.
use Rattle.std.specs.Prelude.{ℕ, zero, suc, ◌+◌, List, [], ◌++◌, Ok, Err, Some, None}
use Rattle.streaming.specs.Record.{Record, committed_in}
use Rattle.streaming.specs.declared.Part.{Part}
use Rattle.streaming.specs.declared.Step.{Step}
use Rattle.streaming.specs.declared.Step.TheVariants as step
use Rattle.streaming.specs.declared.Fault.{Fault}
use Rattle.streaming.specs.declared.StreamError.TheVariants as error
use Rattle.streaming.specs.Answers.{Asked, Answer}

-- Each byte asked for: its place, how much of its demand is left from it on, and what a call says whose last byte it is.
-- Then what is asked in the end; a demand there is one that the source has no bytes for.
pub data Account : Type 0 where
  ask : (at left : ℕ) → Answer → Account → Account
  over : Asked → Account

-- ---- what is asked and said

abbrev pub demand : (at left : ℕ) → Asked
demand at left = Ok (Some (record { offset = at; len = left }))

abbrev pub framing : Answer
framing = Ok step.Framing

abbrev pub payload : Part → Answer
payload part = Ok (step.Payload part)

abbrev pub finished : Answer
finished = Ok step.Finished

-- a fault is said at the byte that brings it, and asked about ever after
abbrev pub faulted : Fault → Answer
faulted f = Err (error.Fault f)

abbrev pub broken : Fault → Asked
broken f = Err (error.Fault f)

-- what is asked first
abbrev pub ask_of : Account → Asked
ask_of (ask at left says rest) = demand at left
ask_of (over q) = q

-- the account behind its first n bytes
abbrev pub passed : ℕ → Account → Account
passed zero a = a
passed (suc n) (ask at left says rest) = passed n rest
passed (suc n) (over q) = over q

-- what is said behind the end: the fault again, where there is one
abbrev pub says_in : Asked → Answer
says_in (Ok (Some r)) = framing
says_in (Ok None) = framing
says_in (Err e) = Err e

-- what the n-th byte says
abbrev pub says_at : ℕ → Account → Answer
says_at zero a = framing
says_at (suc n) (over q) = says_in q
says_at (suc zero) (ask at left says rest) = says
says_at (suc (suc n)) (ask at left says rest) = says_at (suc n) rest

-- ---- what an account tells

-- the records, in the order in which they are committed
unfoldable pub records_in : Account → List Record
records_in (ask at left says rest) = committed_in says ++ records_in rest
records_in (over q) = []

-- those that the first n bytes commit
unfoldable pub records_within : ℕ → Account → List Record
records_within zero a = []
records_within (suc n) (ask at left says rest) = committed_in says ++ records_within n rest
records_within (suc n) (over q) = []

unfoldable pub ending_of : Account → Asked
ending_of (ask at left says rest) = ending_of rest
ending_of (over q) = q

unfoldable pub bytes_taken : Account → ℕ
bytes_taken (ask at left says rest) = suc (bytes_taken rest)
bytes_taken (over q) = 0

-- The most bytes that pieces can bring: the piece that is at fault may hold all the rest of its demand.
abbrev pub brought_by : (left : ℕ) → Answer → ℕ
brought_by left (Ok s) = 1
brought_by left (Err e) = left

unfoldable pub bytes_at_most : Account → ℕ
bytes_at_most (ask at left says rest) = brought_by left says + bytes_at_most rest
bytes_at_most (over q) = 0

-- 1 for a byte that is answered as payload
abbrev pub payload_step : Step → ℕ
payload_step step.Framing = 0
payload_step (step.Payload part) = 1
payload_step (step.Section r) = 0
payload_step (step.Object r) = 0
payload_step step.Finished = 0

abbrev pub payload_byte : Answer → ℕ
payload_byte (Ok s) = payload_step s
payload_byte (Err e) = 0

unfoldable pub payload_taken : Account → ℕ
payload_taken (ask at left says rest) = payload_byte says + payload_taken rest
payload_taken (over q) = 0
