-- Which states a walk can reach (`fit_of`), and the Rust's own test of a saved state (`consistent_of`).
use Rattle.std.specs.Prelude.{Bool, true, false, ◌&&◌, Some, None}
use Rattle.std.proofs.Math.Option.{Option, none, some}
use Rattle.streaming.specs.declared.StreamError.{StreamError}
use Rattle.streaming.specs.declared.Stage.{Stage}
use Rattle.streaming.specs.declared.Stage.TheVariants as stage
use Rattle.streaming.specs.Answers.{Failure}
use Rattle.streaming.specs.declared.FlatWalker.{FlatWalker}
use Rattle.rules.specs.Header.{start_refusal}
use Rattle.section.specs.Fit.{fit_section}
use Rattle.chunk.specs.Fit.{fit_chunk}
use Rattle.entry.specs.Fit.{entry_consistent, fit_entry}
use Rattle.object.specs.Fit.{object_consistent, fit_object}

-- Start takes the header
abbrev pub is_taken : Option StreamError → Bool
is_taken none = true
is_taken (some e) = false

abbrev pub is_sound : Failure → Bool
is_sound None = true
is_sound (Some f) = false

-- ---- by the stage

abbrev pub fit_at : Stage → FlatWalker → Bool
fit_at stage.Vars s = fit_section s
fit_at stage.Classes s = fit_section s
fit_at stage.Chunk s = fit_chunk s
fit_at stage.Entry s = fit_entry s
fit_at stage.Object s = fit_object s
fit_at stage.Done s = true

abbrev pub consistent_at : Stage → FlatWalker → Bool
consistent_at stage.Vars s = fit_section s
consistent_at stage.Classes s = fit_section s
consistent_at stage.Chunk s = fit_chunk s
consistent_at stage.Entry s = entry_consistent s
consistent_at stage.Object s = object_consistent s
consistent_at stage.Done s = true

-- ---- the two tests

-- A failure that is held has no say.
unfoldable pub fit_of : FlatWalker → Bool
fit_of s = is_taken (start_refusal s.header) && fit_at s.stage s

unfoldable pub consistent_of : FlatWalker → Bool
consistent_of s = is_sound s.failure && (is_taken (start_refusal s.header) && consistent_at s.stage s)
