-- Limits: sums of entries past 64 and 63 bits, the least section, and what Start refuses. By computation.
use Prim.Native.Nat.{ℕ, ◌-◌, ◌^◌}
use mathlib.Core.List.{List, [], ◌∷◌, ◌++◌}
use mathlib.Core.Option.{none, some}
use mathlib.Core.Path.{◌≡◌, refl}
use Rattle.streaming.specs.declared.Locator.{Locator}
use Rattle.streaming.specs.declared.FlatHeader.{FlatHeader}
use Rattle.streaming.specs.declared.Part.TheVariants.{HeaderVars, Classes}
use Rattle.streaming.specs.declared.Fault.TheVariants as fault
use Rattle.streaming.specs.declared.StreamError.TheVariants as error
use Rattle.account.specs.Account.{over, broken}
use Rattle.rules.specs.Header.{locator_of, start_refusal}
use Rattle.rules.specs.Section.{start_sentinel, end_sentinel}
use Rattle.rules.specs.Entry.{leads, refused, entries_of}
use Rattle.rules.specs.Rules.{rules}
use Rattle.rules.specs.PlainList.{told}
use Rattle.rules.proofs.EveryRule.{every_rule}
use Rattle.rules.proofs.Cases.{AC1014, locator, header_with, whole}

-- ---- entries

-- the greatest handle delta, 2^63 - 1, and the greatest location delta, 2^62 - 1
abbrev greatest_handle : List ℕ
greatest_handle = 0xFF ∷ 0xFF ∷ 0xFF ∷ 0xFF ∷ 0xFF ∷ 0xFF ∷ 0xFF ∷ 0xFF ∷ 0x7F ∷ []

abbrev greatest_location : List ℕ
greatest_location = 0xFF ∷ 0xFF ∷ 0xFF ∷ 0xFF ∷ 0xFF ∷ 0xFF ∷ 0xFF ∷ 0xFF ∷ 0x3F ∷ []

-- two entries with the greatest handle deltas, and a third
abbrev handles : (last : ℕ) → List ℕ
handles last = greatest_handle ++ (0 ∷ []) ++ greatest_handle ++ (0 ∷ []) ++ (last ∷ 0 ∷ [])

-- two entries with the greatest location deltas, and a third
abbrev locations : (last : ℕ) → List ℕ
locations last = (0 ∷ []) ++ greatest_location ++ (0 ∷ []) ++ greatest_location ++ (0 ∷ last ∷ [])

pub record EntryLimits : Type 0 where
  pub handle_top : entries_of (handles 1) ≡ leads 10 (2 ^ 63 - 1) 0 ∷ leads 10 (2 ^ 64 - 2) 0 ∷ leads 2 (2 ^ 64 - 1) 0 ∷ []
  pub handle_past : entries_of (handles 2) ≡ leads 10 (2 ^ 63 - 1) 0 ∷ leads 10 (2 ^ 64 - 2) 0 ∷ refused 1 ∷ []
  pub location_top : entries_of (locations 1) ≡ leads 10 0 (2 ^ 62 - 1) ∷ leads 10 0 (2 ^ 63 - 2) ∷ leads 2 0 (2 ^ 63 - 1) ∷ []
  pub location_past : entries_of (locations 2) ≡ leads 10 0 (2 ^ 62 - 1) ∷ leads 10 0 (2 ^ 63 - 2) ∷ refused 2 ∷ []
  pub location_below : entries_of (0 ∷ 0x41 ∷ []) ≡ refused 2 ∷ []
  pub negative_zero : entries_of (0 ∷ 0x40 ∷ []) ≡ leads 2 0 0 ∷ []
  -- the chunk is used up behind a handle, inside a handle, and inside a location
  pub handle_alone : entries_of (5 ∷ []) ≡ refused 1 ∷ []
  pub handle_cut : entries_of (0x85 ∷ []) ≡ refused 1 ∷ []
  pub location_cut : entries_of (5 ∷ 0x80 ∷ []) ≡ refused 2 ∷ []

pub entry_limits : EntryLimits
unfolding every_rule
entry_limits = record {
  handle_top = refl;
  handle_past = refl;
  location_top = refl;
  location_past = refl;
  location_below = refl;
  negative_zero = refl;
  handle_alone = refl;
  handle_cut = refl;
  location_cut = refl;
}

-- ---- sections

-- every bit of some bytes turned
abbrev turned : List ℕ → List ℕ
turned [] = []
turned (b ∷ bs) = (0xFF - b) ∷ turned bs

pub record SectionLimits : Type 0 where
  -- a locator of 37 bytes is refused on entry, and no byte is asked for; of 38 it is a section (the whole case); of 39 its size has to say so
  pub too_small : rules (header_with (locator 0 70 37) (locator 1 108 38) (locator 2 153 11) 164) whole ≡ over (broken (fault.SectionSize 0))
  pub too_large : told (rules (header_with (locator 0 70 39) (locator 1 108 38) (locator 2 153 11) 164) whole)
      ≡ record { records = []; ending = broken (fault.SectionSize 0) }
  -- each end sentinel is its start sentinel with every bit turned
  pub vars_sentinels : end_sentinel HeaderVars ≡ turned (start_sentinel HeaderVars)
  pub classes_sentinels : end_sentinel Classes ≡ turned (start_sentinel Classes)

pub section_limits : SectionLimits
unfolding every_rule
section_limits = record { too_small = refl; too_large = refl; vars_sentinels = refl; classes_sentinels = refl }

-- ---- Start

abbrev counted : (count : ℕ) → List Locator → (length : ℕ) → FlatHeader
counted c ls n = record { magic = AC1014; count = c; locators = ls; length = n }

pub record StartLimits : Type 0 where
  -- seven locators are too many, whatever they say
  pub seven : start_refusal (counted 7 (locator 0 99 99 ∷ []) 0) ≡ some (error.LocatorCount 7)
  -- offset and size may reach the length and not pass it; locator 0 is looked at before 2
  pub reach : start_refusal (counted 1 (locator 2 60 40 ∷ []) 100) ≡ none
  pub pass : start_refusal (counted 1 (locator 2 60 41 ∷ []) 100) ≡ some (error.LocatorRange 2)
  pub first-number : start_refusal (counted 2 (locator 2 60 41 ∷ locator 0 60 41 ∷ []) 100) ≡ some (error.LocatorRange 0)
  -- the first of a number counts, and only among the counted; a missing one is offset 0, size 0
  pub first_of_two : locator_of (counted 2 (locator 1 5 6 ∷ locator 1 7 8 ∷ []) 100) 1 ≡ locator 1 5 6
  pub not_counted : locator_of (counted 1 (locator 1 5 6 ∷ locator 2 7 8 ∷ []) 100) 2 ≡ locator 0 0 0

pub start_limits : StartLimits
unfolding every_rule
start_limits = record { seven = refl; reach = refl; pass = refl; first-number = refl; first_of_two = refl; not_counted = refl }
