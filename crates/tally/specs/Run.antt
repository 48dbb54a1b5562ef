-- The history of a run: what is heard of the walk's own calls, from any state.
use Rattle.std.specs.Prelude.{List, [], ◌∷◌, length}
use Rattle.streaming.specs.declared.FlatWalker.{FlatWalker}
use Rattle.account.specs.Statement.{Call}
use Rattle.flat.specs.Flat.{feed_of}
use Rattle.tally.specs.History.{Heard, heard}

-- one call
abbrev pub heard_of : FlatWalker → Call → Heard
heard_of s c = heard s.failure (feed_of s c.offset c.piece).answer (length c.piece)

-- calls in turn, each to the state that the one before left
unfoldable pub heard_in : FlatWalker → List Call → List Heard
heard_in s [] = []
heard_in s (c ∷ cs) = heard_of s c ∷ heard_in (feed_of s c.offset c.piece).state cs
