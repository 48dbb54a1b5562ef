-- Which states of stages Vars and Classes a walk can reach.
use Rattle.std.specs.Prelude.{ℕ, ◌+◌, ◌≤◌, ◌<◌, Bool, ◌&&◌, ◌≡◌, ltb, leb, eqb}
use Rattle.streaming.specs.Choose.{when◌then◌else◌}
use Rattle.streaming.specs.declared.FlatWalker.{FlatWalker}
use Rattle.rules.specs.Section.{frame}
use Rattle.chunk.specs.Fit.{no_object, no_entry}
use Rattle.section.specs.Section.{section_of}

-- how far the section is: its size, once it is known, is the locator's, the total
unfoldable pub section_done : (total done size : ℕ) → Bool
section_done total done size = when ltb done 20 then eqb size 0 else eqb (frame + size) total

-- the map and the objects are untouched
unfoldable pub fit_section : FlatWalker → Bool
fit_section s =
    (no_object s && (no_entry s.map && eqb s.map.chunk 0))
    && (leb frame (section_of s).size && ltb s.done (section_of s).size)
    && section_done (section_of s).size s.done s.size

pub record FitSection (s : FlatWalker) : Type 0 where
  pub framed : frame ≤ (section_of s).size
  pub inside : s.done < (section_of s).size
  pub early : s.done < 20 → s.size ≡ 0
  pub late : 20 ≤ s.done → frame + s.size ≡ (section_of s).size
