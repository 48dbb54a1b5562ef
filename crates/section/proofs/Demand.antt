-- Laws of what is asked for in a section: a fit state has a byte to ask for, and a piece that fits the demand ends within its field.
use Prim.Native.Nat.{ℕ, ◌+◌, ◌≤◌, ◌<◌}
use native.Mathlib.Omega.{arith}
use borrow.Author.Tests.{lt-ltb, le-ltb, ltb-true, ltb-false}
use Rattle.streaming.specs.Choose.{when◌then◌else◌}
use Rattle.streaming.proofs.Choose.{in_both}
use Rattle.streaming.specs.declared.FlatWalker.{FlatWalker}
use Rattle.rules.specs.Section.{frame}
use Rattle.section.specs.Section.{section_end, request_section}
use Rattle.section.specs.Fit.{FitSection}

module _ (s : FlatWalker) (f : FitSection s) where
  pub end_behind : s.done < section_end s.done s.size
  unfolding section_end
  end_behind =
      in_both (λ e. s.done < e) _ (λ t. omega (arith, ltb-true))
      (λ t. in_both (λ e. s.done < e) _ (λ u. omega (arith, ltb-true))
      (λ u. in_both (λ e. s.done < e) _ (λ v. omega (arith, ltb-true))
      (λ v. in_both (λ e. s.done < e) _ (λ w. omega (arith, ltb-true))
      (λ w. omega (arith, f.late (ltb-false _ _ u))))))

  module _ (n : ℕ) (h : n ≤ (request_section s).len) where
    in_demand : s.done + n ≤ section_end s.done s.size
    unfolding request_section
    in_demand = omega (arith, end_behind)

    pub in_start : s.done < 16 → s.done + n ≤ 16
    unfolding section_end when◌then◌else◌
    in_start a = simp (lt-ltb _ _ a) at in_demand

    pub in_size : 16 ≤ s.done → s.done < 20 → s.done + n ≤ 20
    unfolding section_end when◌then◌else◌
    in_size a b = simp (le-ltb _ _ a, lt-ltb _ _ b) at in_demand

    module _ (a : 16 ≤ s.done) (b : 20 ≤ s.done) where
      pub in_data : s.done < 20 + s.size → s.done + n ≤ 20 + s.size
      unfolding section_end when◌then◌else◌
      in_data d = simp (le-ltb _ _ a, le-ltb _ _ b, lt-ltb _ _ d) at in_demand

      pub in_crc : 20 + s.size ≤ s.done → s.done < 22 + s.size → s.done + n ≤ 22 + s.size
      unfolding section_end when◌then◌else◌
      in_crc d e = simp (le-ltb _ _ a, le-ltb _ _ b, le-ltb _ _ d, lt-ltb _ _ e) at in_demand

      pub in_end : 20 + s.size ≤ s.done → 22 + s.size ≤ s.done → s.done + n ≤ frame + s.size
      unfolding section_end when◌then◌else◌
      in_end d e = simp (le-ltb _ _ a, le-ltb _ _ b, le-ltb _ _ d, le-ltb _ _ e) at in_demand
