-- From its start the machine goes through every source as the rules say: both sections, then the map and its objects.
use Prim.Native.Nat.{ℕ}
use mathlib.Core.List.{List}
use mathlib.Core.Path.{refl}
use Rattle.streaming.specs.State.{in_unit}
use Rattle.streaming.specs.declared.FlatHeader.{FlatHeader}
use Rattle.streaming.specs.declared.Stage.TheVariants as stage
use Rattle.account.proofs.Walks.{On}
use Rattle.rules.specs.Rules.{rules}
use Rattle.section.specs.Section.{enter_section}
use Rattle.flat.specs.Flat.{blank}
use Rattle.stands.proofs.Bare.{bare}
use Rattle.stands.proofs.SectionDemands.{vars, classes}
use Rattle.stands.proofs.Sections.{section_on}
use Rattle.stands.proofs.Chunks.{map_on}

pub walk_on : (h : FlatHeader) (src : List ℕ) → On bare src (enter_section (blank h) stage.Vars) (rules h src)
unfolding rules
walk_on h src =
    section_on src (blank h) stage.Vars vars refl refl _ λ done size crc field n.
    section_on src (in_unit (blank h) stage.Vars done size crc field) stage.Classes classes refl n _ λ done size crc field m.
    map_on src (in_unit (blank h) stage.Classes done size crc field) refl m
