-- The account of a section tells what the plain list has of it.
use Prim.Native.Nat.{ℕ, ◌+◌, ◌≤◌}
use mathlib.Core.List.{List}
use mathlib.Core.Path.{◌≡◌, ◌∙◌}
use native.Mathlib.Omega.{arith}
use lib.ListN.{length}
use lib.Dec.{leb, eqb}
use borrow.Author.Tests.{leb-true, eqb-true}
use Rattle.streaming.specs.Numbers.{part_number}
use Rattle.streaming.specs.Record.{section}
use Rattle.streaming.specs.declared.Part.{Part}
use Rattle.streaming.specs.declared.Fault.TheVariants as fault
use Rattle.account.specs.Statement.{part}
use Rattle.account.specs.Account.{Account, framing, payload}
use Rattle.octets.specs.Octets.{same}
use Rattle.rules.specs.Section.{start_sentinel, end_sentinel, frame, section_size, section_computed, section_stored, section_record}
use Rattle.rules.specs.Section.{ask_section_end, section_crc_turn, ask_section_data, section_size_turn, ask_section}
use Rattle.rules.specs.PlainList.{told, first, require, section_then}
use Rattle.rules.proofs.Section.{IsSection, length-start, length_end}
use Rattle.rules.proofs.Told.{turn_if, entered_if, require_if, told-span, told-passing, told-spell}

module _ (src : List ℕ) (p : Part) (is : IsSection p) (start total : ℕ) (next : Account) (inside : start + total ≤ length src) where
  -- behind the size field
  data_told : (size : ℕ) → frame + size ≡ total
      → told (ask_section_data src p start next size)
      ≡ require (eqb (section_stored src start size) (section_computed src start size))
      (fault.SectionCrc (part_number p) (section_computed src start size) (section_stored src start size))
      (require (same (part src (start + 22 + size) 16) (end_sentinel p)) (fault.SectionSentinel (part_number p))
      (first (section (section_record p start size)) (told next)))
  unfolding ask_section_data section_crc_turn ask_section_end
  data_told size e =
      told-passing src (start + 20) size (payload p) _ tt (omega arith) ∙
      told-span src (start + 20 + size) 1 framing _ tt (omega arith) ∙
      (turn_if _ _ _ λ f. told-spell src (start + 22 + size) 16 (end_sentinel p) _ _ (length_end is) (omega arith) (omega arith))

  pub section-told : told (ask_section src p start total next) ≡ section_then src p start total (told next)
  unfolding ask_section section_size_turn section_then
  section-told =
      entered_if (leb frame total) _ _ λ e.
      let k : frame ≤ total = leb-true frame total e in
      told-spell src start 16 (start_sentinel p) _ _ (length-start is) (omega arith) (omega arith) ∙
      (require_if (same (part src start 16) (start_sentinel p)) _ λ f.
      told-span src (start + 16) 3 framing _ tt (omega arith) ∙
      (turn_if (eqb (frame + section_size src start) total) _ _ λ g.
      data_told (section_size src start) (eqb-true (frame + section_size src start) total g)))
