-- What the driver's walk is: a run over the very source that it was given, and in the end a whole one.
use Rattle.std.specs.Prelude.{ℕ, zero, suc, ◌+◌, ◌*◌, ◌/◌, ◌≤◌, List, [], ◌∷◌, ◌++◌, ◌≡◌, length, Option, Some, None}
use Rattle.streaming.specs.declared.FlatHeader.{FlatHeader}
use Rattle.streaming.specs.declared.FlatWalker.{FlatWalker}
use Rattle.streaming.specs.Answers.{Ended}
use Rattle.account.specs.Account.{ending_of}
use Rattle.account.specs.Statement.{Call, Honest, ended_by, part}
use Rattle.account.specs.Runs.{run, bytes, Whole}
use Rattle.rules.specs.Header.{locator_of, map_size}
use Rattle.rules.specs.Source.{Of}
use Rattle.rules.specs.Rules.{rules}
use Rattle.flat.specs.Flat.{request_of, feed_of}
use Rattle.form.specs.declared.Cuts.{Cuts}
use Rattle.form.specs.Cutting.{Cutting}
use Rattle.tally.specs.declared.Tally.{Tally}
use Rattle.tally.specs.Tally.{tally_of}
use Rattle.tally.specs.Run.{heard_in}
use Rattle.stands.proofs.Fitness.{begun, flat_walker}
use Rattle.driving.specs.Pieces.{turn_after, next_by}
use Rattle.driving.specs.declared.pieces.Piece.{Piece}

-- the most bytes that a walk takes: both sections once, the map twice, and the source once for every two bytes of the map
abbrev pub most_bytes : FlatHeader → ℕ
most_bytes h = (locator_of h 0).size + (locator_of h 1).size + 2 * map_size h + map_size h / 2 * h.length

-- a call that brings the source's bytes at a place
abbrev pub piece_at : List ℕ → (offset len : ℕ) → Call
piece_at src offset len = record { offset = offset; piece = part src offset len }

-- what follows a piece, if there is one
abbrev pub if_piece : Option Piece → ((offset len : ℕ) → List Call) → List Call
if_piece (Some piece) more = more piece.offset piece.len
if_piece None more = []

-- the calls that the driver makes from a state on, piece by piece; at most so many
unfoldable pub calls_from : (most : ℕ) → List ℕ → Cuts → (turn : ℕ) → FlatWalker → List Call
calls_from zero src c turn s = []
calls_from (suc most) src c turn s =
    if_piece (next_by (request_of s) (length src) c turn)
    (λ offset len. piece_at src offset len ∷ calls_from most src c (turn_after c turn) (feed_of s offset (part src offset len)).state)

-- all of them: no piece is empty, so there are no more calls than bytes that a walk takes
abbrev pub driver_calls : FlatHeader → List ℕ → Cuts → List Call
driver_calls h src c = calls_from (most_bytes h) src c 0 (begun h)

-- so far: the driver's first calls, which led to this state, and their tally; the others follow from here
pub record Ran (h : FlatHeader) (src : List ℕ) (c : Cuts) (turn : ℕ) (s : FlatWalker) (t : Tally) : Type 0 where
  pub calls : List Call
  pub honest : Honest flat_walker src (begun h) calls
  pub leads : s ≡ run flat_walker (begun h) calls
  pub counts : t ≡ tally_of (heard_in (begun h) calls)
  pub left : ℕ
  pub enough : most_bytes h ≤ left + bytes flat_walker (begun h) calls
  pub follows : driver_calls h src c ≡ calls ++ calls_from left src c turn s

-- in the end: the driver's calls are a run over the source that has taken all of it, with the whole list of the rules; the ending is the rules' own, and
-- the tally that of these calls
pub record RanWhole (h : FlatHeader) (src : List ℕ) (c : Cuts) (e : Ended) (t : Tally) : Type 0 where
  pub honest : Honest flat_walker src (begun h) (driver_calls h src c)
  pub whole : Whole flat_walker (rules h src) (begun h) (driver_calls h src c)
  pub ending : e ≡ ended_by (ending_of (rules h src))
  pub counts : t ≡ tally_of (heard_in (begun h) (driver_calls h src c))

-- what a walk is given: a header that Start takes, its source, of at most 60,000 bytes, and cuts
pub record Walkable (h : FlatHeader) (src : List ℕ) (c : Cuts) : Type 0 where
  pub of : Of h src
  pub short : length src ≤ 60000
  pub cutting : Cutting c
