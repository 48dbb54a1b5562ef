-- What the driver prints: a line for each record, and the lines of the ending.
use Rattle.std.specs.Prelude.{ℕ, List, [], ◌∷◌, Option, Ok, Err, Some, None}
use Rattle.streaming.specs.Numbers.{number_of}
use Rattle.streaming.specs.declared.Step.{Step}
use Rattle.streaming.specs.declared.Step.TheVariants as step
use Rattle.streaming.specs.Answers.{Answer, Ended}
use Rattle.lines.specs.Line.{line_of, text_of, section_line, object_line, refusal_line}
use Rattle.tally.specs.declared.Tally.{Tally}
use Rattle.lines.specs.declared.Line.{Line}

-- the text of a line that is said, or no text
abbrev pub saying_text : Option Line → List ℕ
saying_text None = []
saying_text (Some line) = text_of line

-- a record has its line, and no other step has one
abbrev pub step_text : Step → List ℕ
step_text step.Framing = []
step_text (step.Payload part) = []
step_text (step.Section r) = section_line r
step_text (step.Object r) = object_line r
step_text step.Finished = []

abbrev pub answer_text : Answer → List ℕ
answer_text (Ok s) = step_text s
answer_text (Err e) = []

-- `X`, where the ending isn't Finished
abbrev pub why_text : Ended → List ℕ
why_text (Ok tt) = []
why_text (Err e) = refusal_line e

-- 0 for a walk that finished
abbrev pub ending_number : Ended → ℕ
ending_number (Ok tt) = 0
ending_number (Err e) = number_of e

-- `E` ending bytes framing payload objects repeats
abbrev pub end_line : Ended → Tally → List ℕ
end_line e t = line_of 69 (ending_number e ∷ t.bytes ∷ t.framing ∷ t.payload ∷ t.objects ∷ t.repeats ∷ [])
