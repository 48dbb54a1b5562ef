-- Laws of a section that is looked at field by field: where the first fault is, the walk ends there.
use Prim.Native.Nat.{ℕ, zero, suc, ◌+◌, ◌<◌, ◌≤◌}
use mathlib.Core.Bool.{true, false}
use mathlib.Core.List.{List, []}
use mathlib.Core.Path.{◌≡◌, refl}
use native.Mathlib.Omega.{arith}
use lib.ListN.{get_or}
use borrow.Author.Tests.{le-leb, lt-leb, eq-eqb, ne_eqb}
use Rattle.streaming.specs.Numbers.{part_number}
use Rattle.streaming.specs.Record.{section}
use Rattle.streaming.specs.declared.Part.{Part}
use Rattle.streaming.specs.declared.Fault.TheVariants as fault
use Rattle.octets.specs.Octets.{same}
use Rattle.account.specs.Statement.{part}
use Rattle.account.specs.Account.{broken}
use Rattle.section.specs.Section.{sentinel_at}
use Rattle.section.specs.declared.sentinels.Side.{Side}
use Rattle.section.specs.declared.sentinels.Side.TheVariants.{Start, End}
use Rattle.rules.specs.Section.{sentinels, section_size, section_computed, section_stored, section_record}
use Rattle.rules.specs.PlainList.{Listing, stop, first, require, section_then}

-- a sentinel has 16 bytes
pub whole_sentinel : (p : ℕ) (side : Side) → p < 2 → part (sentinel_at p side) 0 16 ≡ sentinel_at p side
unfolding sentinels
whole_sentinel zero Start h = refl
whole_sentinel zero End h = refl
whole_sentinel (suc zero) Start h = refl
whole_sentinel (suc zero) End h = refl
whole_sentinel (suc (suc p)) side h = absurd (omega arith)

module _ (src : List ℕ) (p : Part) (start total number : ℕ) (is : number ≡ part_number p) (rest : Listing) where
  abbrev goes : Listing
  goes = section_then src p start total rest

  pub too_short : total < 38 → goes ≡ stop (broken (fault.SectionSize number))
  unfolding section_then require
  too_short h = rw (lt-leb 38 total h, is)

  module _ (h : 38 ≤ total) where
    pub other_start : same (part src start 16) (get_or (get_or sentinels number []) 0 []) ≡ false → goes ≡ stop (broken (fault.SectionSentinel number))
    unfolding section_then require
    other_start s = rw (le-leb 38 total h, ← is, s)

    module _ (s : same (part src start 16) (get_or (get_or sentinels number []) 0 []) ≡ true) (size : ℕ) (z : size ≡ section_size src start) where
      pub other_size : (38 + size ≡ total → ⊥) → goes ≡ stop (broken (fault.SectionSize number))
      unfolding section_then require
      other_size t = rw (le-leb 38 total h, ← is, s, ← z, ne_eqb (38 + size) total t)

      module _ (t : 38 + size ≡ total) (computed stored : ℕ) (c : computed ≡ section_computed src start size) (d : stored ≡ section_stored src start size) where
        pub other_sum : (stored ≡ computed → ⊥) → goes ≡ stop (broken (fault.SectionCrc number computed stored))
        unfolding section_then require
        other_sum k = rw (le-leb 38 total h, ← is, s, ← z, eq-eqb (38 + size) total t, ← c, ← d, ne_eqb stored computed k)

        module _ (k : stored ≡ computed) where
          pub other_end : same (part src (start + 22 + size) 16) (get_or (get_or sentinels number []) 1 []) ≡ false
              → goes ≡ stop (broken (fault.SectionSentinel number))
          unfolding section_then require
          other_end e = rw (le-leb 38 total h, ← is, s, ← z, eq-eqb (38 + size) total t, ← c, ← d, eq-eqb stored computed k, e)

          pub section-holds : same (part src (start + 22 + size) 16) (get_or (get_or sentinels number []) 1 []) ≡ true
              → goes ≡ first (section (section_record p start size)) rest
          unfolding section_then require
          section-holds e = rw (le-leb 38 total h, ← is, s, ← z, eq-eqb (38 + size) total t, ← c, ← d, eq-eqb stored computed k, e)
