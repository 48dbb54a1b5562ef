-- The answer of Start to a header, by what the rules refuse.
use Rattle.std.specs.Prelude.{Result, Ok, Err}
use Rattle.std.proofs.Math.Option.{Option, none, some}
use Rattle.streaming.specs.declared.StreamError.{StreamError}

abbrev pub start_answer : Option StreamError → Result (Unit {0}) StreamError
start_answer none = Ok tt
start_answer (some e) = Err e
