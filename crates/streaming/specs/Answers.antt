-- What a walk answers, as the code's own types have it; antt has no name for such a type but an abbreviation.
use Rattle.std.specs.Prelude.{Option, Result}
use Rattle.streaming.specs.declared.Request.{Request}
use Rattle.streaming.specs.declared.Step.{Step}
use Rattle.streaming.specs.declared.Fault.{Fault}
use Rattle.streaming.specs.declared.StreamError.{StreamError}

-- to `request`: a demand, nothing more, or a refusal
abbrev pub Asked : Type 0
Asked = Result (Option Request) StreamError

-- to `feed`: what the piece was, or why it was refused
abbrev pub Answer : Type 0
Answer = Result Step StreamError

-- to `end_of_input`: the walk is whole, or what it still wants or was refused for
abbrev pub Ended : Type 0
Ended = Result (Unit {0}) StreamError

-- the fault that is held, if any
abbrev pub Failure : Type 0
Failure = Option Fault
