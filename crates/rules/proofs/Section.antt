-- The parts that are sections, and the length of their sentinels.
use mathlib.Core.Path.{◌≡◌, refl}
use lib.ListN.{length}
use Rattle.streaming.specs.declared.Part.{Part}
use Rattle.streaming.specs.declared.Part.TheVariants.{HeaderVars, Classes}
use Rattle.rules.specs.Section.{sentinels, start_sentinel, end_sentinel}

pub data IsSection : Part → Type 0 where
  vars : IsSection HeaderVars
  classes : IsSection Classes

pub length-start : {p : Part} → IsSection p → length (start_sentinel p) ≡ 16
unfolding sentinels
length-start vars = refl
length-start classes = refl

pub length_end : {p : Part} → IsSection p → length (end_sentinel p) ≡ 16
unfolding sentinels
length_end vars = refl
length_end classes = refl
