-- The walk by calls: what the contracts of `start`, `request`, `feed` and `end_of_input` cite.
use Rattle.std.specs.Prelude.{ℕ, Bool, ◌&&◌, List, length, get_or, replicate, ltb, leb, eqb, Result, Ok, Err, Some, None}
use Rattle.std.proofs.Math.Option.{Option, none, some}
use Rattle.streaming.specs.Choose.{when◌then◌else◌}
use Rattle.streaming.specs.State.{at_chunk, refused_by}
use Rattle.streaming.specs.declared.FlatHeader.{FlatHeader}
use Rattle.streaming.specs.declared.Request.{Request}
use Rattle.streaming.specs.declared.StreamError.{StreamError}
use Rattle.streaming.specs.declared.StreamError.TheVariants as error
use Rattle.streaming.specs.Answers.{Asked, Ended, Failure}
use Rattle.streaming.specs.declared.Stage.{Stage}
use Rattle.streaming.specs.declared.Stage.TheVariants as stage
use Rattle.streaming.specs.declared.FlatWalker.{FlatWalker}
use Rattle.streaming.specs.declared.Fed.{Fed}
use Rattle.account.specs.Statement.{ended_by}
use Rattle.rules.specs.Header.{start_refusal}
use Rattle.section.specs.Section.{enter_section, request_section, feed_section}
use Rattle.chunk.specs.Chunk.{request_chunk, feed_chunk}
use Rattle.entry.specs.Entry.{request_entry, feed_entry}
use Rattle.object.specs.Object.{request_object, feed_object}
use Rattle.flat.specs.Fit.{fit_of}

-- ---- start

-- before anything is done
abbrev pub blank : FlatHeader → FlatWalker
blank h = record {
  header = h;
  stage = stage.Vars;
  done = 0;
  size = 0;
  crc = 0;
  field = replicate 4 0;
  head = replicate 16 0;
  object = 0;
  ms_len = 0;
  words = 0;
  map = at_chunk 0;
  failure = None;
}

-- a walk that has begun: the header variables are entered
unfoldable pub begun_of : FlatHeader → FlatWalker
begun_of h = enter_section (blank h) stage.Vars

-- where the header is refused there is no walk
abbrev pub started : Option StreamError → FlatWalker → Result FlatWalker StreamError
started none s = Ok s
started (some e) s = Err e

unfoldable pub start_of : FlatHeader → Result FlatWalker StreamError
start_of h = started (start_refusal h) (begun_of h)

-- ---- request and the end of input

abbrev pub request_at : Stage → FlatWalker → Asked
request_at stage.Vars s = Ok (Some (request_section s))
request_at stage.Classes s = Ok (Some (request_section s))
request_at stage.Chunk s = Ok (Some (request_chunk s))
request_at stage.Entry s = Ok (Some (request_entry s))
request_at stage.Object s = Ok (Some (request_object s))
request_at stage.Done s = Ok None

-- what a fit state asks for, and 19 for any other
abbrev pub asked_if : (fit : Bool) → Asked → Asked
asked_if fit q = when fit then q else Err error.BadState

-- the held failure, then 19, then the stage
abbrev pub request_in : Failure → FlatWalker → Asked
request_in (Some f) s = Err (error.Fault f)
request_in None s = asked_if (fit_of s) (request_at s.stage s)

unfoldable pub request_of : FlatWalker → Asked
request_of s = request_in s.failure s

unfoldable pub end_of : FlatWalker → Ended
end_of s = ended_by (request_of s)

-- ---- feed

-- an accepted piece
abbrev pub feed_at : Stage → FlatWalker → (piece : List ℕ) → Fed
feed_at stage.Vars s piece = feed_section s piece
feed_at stage.Classes s piece = feed_section s piece
feed_at stage.Chunk s piece = feed_chunk s piece
feed_at stage.Entry s piece = feed_entry s (get_or piece 0 0)
feed_at stage.Object s piece = feed_object s piece
feed_at stage.Done s piece = refused_by error.Finished s

-- a demand's own refusals: 4, then 5; else what the piece does
abbrev pub offered_to : Request → FlatWalker → (offset : ℕ) (piece : List ℕ) → Fed → Fed
offered_to r s offset piece taken =
    when eqb offset r.offset then
    (when ltb 0 (length piece) && leb (length piece) r.len then taken
    else refused_by (error.InvalidFeed r.len (length piece)) s)
    else refused_by (error.WrongOffset r.offset offset) s

-- by what is asked for: 3, 4, 5, then the rules
abbrev pub offered_by : Stage → Asked → FlatWalker → (offset : ℕ) (piece : List ℕ) → Fed
offered_by g (Ok (Some r)) s offset piece = offered_to r s offset piece (feed_at g s piece)
offered_by g (Ok None) s offset piece = refused_by error.Finished s
offered_by g (Err e) s offset piece = refused_by e s

abbrev pub offered : Asked → FlatWalker → (offset : ℕ) (piece : List ℕ) → Fed
offered q s offset piece = offered_by s.stage q s offset piece

-- the held failure and 19 are what `request` says too
unfoldable pub feed_of : FlatWalker → (offset : ℕ) (piece : List ℕ) → Fed
feed_of s offset piece = offered (request_of s) s offset piece
