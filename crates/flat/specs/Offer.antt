-- Whether a piece is taken: what the code tests before a stage sees the piece.
use Rattle.std.specs.Prelude.{ℕ, Bool, ◌&&◌, List, get_or, ltb, leb, eqb, Ok, Err}
use Rattle.streaming.specs.Choose.{when◌then◌else◌}
use Rattle.streaming.specs.State.{refused_by}
use Rattle.streaming.specs.declared.Request.{Request}
use Rattle.streaming.specs.declared.StreamError.TheVariants as error
use Rattle.streaming.specs.Answers.{Ended}
use Rattle.streaming.specs.declared.Stage.{Stage}
use Rattle.streaming.specs.declared.Stage.TheVariants as stage
use Rattle.streaming.specs.declared.FlatWalker.{FlatWalker}
use Rattle.streaming.specs.declared.Fed.{Fed}
use Rattle.section.specs.Section.{request_section, feed_section}
use Rattle.section.specs.Fit.{fit_section}
use Rattle.chunk.specs.Chunk.{request_chunk, feed_chunk}
use Rattle.chunk.specs.Fit.{fit_chunk}
use Rattle.entry.specs.Entry.{request_entry, feed_entry}
use Rattle.entry.specs.Fit.{fit_entry}
use Rattle.object.specs.Object.{request_object, feed_object}
use Rattle.object.specs.Fit.{fit_object}
use Rattle.flat.specs.Flat.{offered_to}

-- 4, then 5
unfoldable pub offer_of : Request → (offset size : ℕ) → Ended
offer_of r offset size =
    when eqb offset r.offset then
    (when ltb 0 size && leb size r.len then Ok tt else Err (error.InvalidFeed r.len size))
    else Err (error.WrongOffset r.offset offset)

-- what a fit state does with a piece that is offered; any other state answers 19
abbrev pub fed_if : (fit : Bool) → Request → FlatWalker → (offset : ℕ) (piece : List ℕ) → Fed → Fed
fed_if fit r s offset piece taken = when fit then offered_to r s offset piece taken else refused_by error.BadState s

abbrev pub fed_at : Stage → FlatWalker → (offset : ℕ) (piece : List ℕ) → Fed
fed_at stage.Vars s offset piece = fed_if (fit_section s) (request_section s) s offset piece (feed_section s piece)
fed_at stage.Classes s offset piece = fed_if (fit_section s) (request_section s) s offset piece (feed_section s piece)
fed_at stage.Chunk s offset piece = fed_if (fit_chunk s) (request_chunk s) s offset piece (feed_chunk s piece)
fed_at stage.Entry s offset piece = fed_if (fit_entry s) (request_entry s) s offset piece (feed_entry s (get_or piece 0 0))
fed_at stage.Object s offset piece = fed_if (fit_object s) (request_object s) s offset piece (feed_object s piece)
fed_at stage.Done s offset piece = refused_by error.Finished s
