-- What the test of `specs/Fit.antt` shows.
use Prim.Native.Nat.{ℕ, ◌+◌, ◌≤◌, ◌<◌}
use mathlib.Core.Bool.{Bool, true}
use mathlib.Core.Path.{◌≡◌}
use native.Mathlib.Omega.{arith}
use borrow.Author.Tests.{ltb-true, ltb-false, eqb-true}
use Rattle.streaming.proofs.Cases.{shown}
use Rattle.streaming.proofs.Choose.{in_both}
use Rattle.streaming.specs.declared.FlatWalker.{FlatWalker}
use Rattle.rules.specs.Section.{frame}
use Rattle.section.specs.Section.{section_of}
use Rattle.section.specs.Fit.{section_done, fit_section, FitSection}

module _ (total done size : ℕ) (e : section_done total done size ≡ true) where
  early : done < 20 → size ≡ 0
  unfolding section_done
  early h = in_both (λ (t : Bool). t ≡ true → size ≡ 0) _ (λ t k. eqb-true _ _ k) (λ t k. absurd (omega (arith, ltb-false))) e

  late : 20 ≤ done → frame + size ≡ total
  unfolding section_done
  late h = in_both (λ (t : Bool). t ≡ true → frame + size ≡ total) _ (λ t k. absurd (omega (arith, ltb-true))) (λ t k. eqb-true _ _ k) e

pub fit_section_shows : (s : FlatWalker) → fit_section s ≡ true → FitSection s
unfolding fit_section
fit_section_shows s e =
    let d : section_done (section_of s).size s.done s.size ≡ true = search shown in
    record { framed = search shown; inside = search shown; early = early _ _ _ d; late = late _ _ _ d }
