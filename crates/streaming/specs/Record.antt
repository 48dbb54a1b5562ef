-- What a walk commits: a section or an object that passed every check.
use Rattle.std.specs.Prelude.{ℕ, suc, List, [], ◌∷◌, Ok, Err}
use Rattle.streaming.specs.declared.SectionRecord.{SectionRecord}
use Rattle.streaming.specs.declared.ObjectRecord.{ObjectRecord}
use Rattle.streaming.specs.declared.Step.{Step}
use Rattle.streaming.specs.declared.Step.TheVariants as step
use Rattle.streaming.specs.Answers.{Answer}

pub data Record : Type 0 where
  section : SectionRecord → Record
  object : ObjectRecord → Record

-- the record that a step commits, if it commits one
abbrev pub committed_by : Step → List Record
committed_by step.Framing = []
committed_by (step.Payload part) = []
committed_by (step.Section r) = section r ∷ []
committed_by (step.Object r) = object r ∷ []
committed_by step.Finished = []

-- a refused call commits nothing
abbrev pub committed_in : Answer → List Record
committed_in (Ok s) = committed_by s
committed_in (Err e) = []

-- how many records are objects
abbrev pub objects_in : List Record → ℕ
objects_in [] = 0
objects_in (section r ∷ rs) = objects_in rs
objects_in (object r ∷ rs) = suc (objects_in rs)
