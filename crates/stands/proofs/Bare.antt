-- The machine without the test of fitness: what the walk asks for, and what an accepted piece does. That the test never fails in a run stands in Fitness.
use Rattle.std.specs.Prelude.{Err, Some, None}
use Prim.Native.Nat.{ℕ}
use mathlib.Core.List.{List}
use mathlib.Core.Path.{◌≡◌, refl}
use Rattle.streaming.specs.State.{failing}
use Rattle.streaming.specs.declared.Fault.{Fault}
use Rattle.streaming.specs.declared.StreamError.TheVariants as error
use Rattle.streaming.specs.Answers.{Asked, Answer, Failure}
use Rattle.streaming.specs.declared.FlatWalker.{FlatWalker}
use Rattle.streaming.specs.declared.Fed.{Fed}
use Rattle.account.specs.Account.{broken}
use Rattle.account.proofs.Walks.{Machine}
use Rattle.flat.specs.Flat.{request_at, feed_at}

-- a held failure, then the stage
abbrev pub bare_in : Failure → FlatWalker → Asked
bare_in (Some f) s = Err (error.Fault f)
bare_in None s = request_at s.stage s

unfoldable pub bare_request : FlatWalker → Asked
bare_request s = bare_in s.failure s

-- an outcome as a pair
abbrev pub outcome : Fed → Answer × FlatWalker
outcome r = (r.answer, r.state)

unfoldable pub bare_feed : FlatWalker → List ℕ → Answer × FlatWalker
bare_feed s piece = outcome (feed_at s.stage s piece)

abbrev pub bare : Machine
bare = record { State = FlatWalker; request = bare_request; feed = bare_feed }

-- a state that failed asks about its fault
pub failing_asks : (s : FlatWalker) (f : Fault) → bare_request (failing s f) ≡ broken f
unfolding bare_request
failing_asks s f = refl
