-- The code's formats and answers, as the rules have them.
use Rattle.std.specs.Prelude.{Bool, true, false, Option, Some, None}
use Rattle.std.proofs.Math.Option as rules
use Rattle.rules.specs.Prologue.{Prologue}
use Rattle.records.specs.declared.RecordFormat.{RecordFormat}
use Rattle.records.specs.declared.RecordFormat.TheVariants.{R14, R2000}
use Rattle.records.specs.declared.Opening.{Opening}

-- the rules skip 32 bits behind the type in this format
abbrev pub of_r2000 : RecordFormat → Bool
of_r2000 R14 = false
of_r2000 R2000 = true

-- the rules' prologue, if there is one, as `prologue` answers it
abbrev pub head_of : rules.Option Prologue → Option Opening
head_of rules.none = None
head_of (rules.some p) = Some (record { type_code = p.type; handle = p.handle })
