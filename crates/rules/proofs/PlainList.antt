-- The account and the plain list agree: the same records, in the same order, and the same ending.
use Rattle.std.specs.Prelude.{Ok, None}
use Prim.Native.Nat.{ℕ, zero, suc, ◌+◌, ◌-◌, ◌≤◌}
use mathlib.Core.List.{List, [], ◌∷◌}
use mathlib.Core.Path.{◌≡◌, refl, ap, ◌∙◌}
use native.Mathlib.Omega.{arith}
use lib.ListN.{length}
use borrow.Author.Tests.{leb-true}
use Rattle.streaming.specs.declared.Part.TheVariants.{HeaderVars, Classes}
use Rattle.streaming.specs.declared.FlatHeader.{FlatHeader}
use Rattle.account.specs.Account.{Account, framing}
use Rattle.rules.specs.Header.{locator_of, map_start, map_size, map_end}
use Rattle.rules.specs.Source.{Of}
use Rattle.rules.specs.Entry.{Entry, leads, refused}
use Rattle.rules.specs.Map.{chunk_size, chunk_entries, chunk_fits}
use Rattle.rules.specs.Map.{ask_entries, chunk_turn, chunk_crc_turn, chunk_size_turn, ask_chunks}
use Rattle.rules.specs.Rules.{rules}
use Rattle.rules.specs.PlainList.{told, object_then, entries_then, checked_chunk_then, chunk_then, chunks_from, part_then, plain_list}
use Rattle.streaming.proofs.Choose.{choose_alike}
use Rattle.rules.proofs.Header.{started}
use Rattle.rules.proofs.Section.{vars, classes}
use Rattle.rules.proofs.Entry.{Within}
use Rattle.rules.proofs.Map.{fits_low, fits_end, chunk-within}
use Rattle.rules.proofs.Told.{told_turn, told-bad, told_over, turn_if, entered_if, told-span, told-passing, told-one_by_one}
use Rattle.rules.proofs.PlainSection.{section-told}
use Rattle.rules.proofs.PlainObject.{object-told}

module _ (h : FlatHeader) (src : List ℕ) (len : length src ≡ h.length) where
  entries_told : (es : List Entry) (room at : ℕ) (next : Account) → Within room es → at + room ≤ length src
      → told (ask_entries h src es at next) ≡ entries_then h src es at (told next)
  unfolding ask_entries entries_then
  entries_told [] room at next w k = refl
  entries_told (leads zero handle location ∷ more) room at next w k = absurd (omega (arith, w.0))
  entries_told (leads (suc n) handle location ∷ more) room at next w k =
      told-one_by_one src at n _ (omega (arith, w.1)) ∙
      object-told h src len handle location _ ∙
      ap (object_then h src handle location) (entries_told more (room - suc n) (at + suc n) next w.2 (omega (arith, w.1)))
  entries_told (refused zero ∷ more) room at next w k = absurd (omega (arith, w.0))
  entries_told (refused (suc n) ∷ more) room at next w k = told-one_by_one src at n _ (omega (arith, w.1)) ∙ told-bad _

  module _ (inside : map_end h ≤ length src) where
    chunk-told : (chunk size : ℕ) (next : Account) → chunk + size + 2 ≤ map_end h → 2 ≤ size
        → told_turn (chunk_turn h src chunk size next) ≡ checked_chunk_then h src chunk size (told next)
    unfolding chunk_turn checked_chunk_then
    chunk-told chunk size next k l =
        choose_alike told_turn _ (λ e. turn_if _ _ _ λ f. told_over (Ok None)) λ e.
        let w = chunk-within src chunk size in
        entries_told (chunk_entries src chunk size) w.0 (chunk + 2) next w.2 (omega (arith, w.1))

    chunks_told : (k chunk : ℕ) → told (ask_chunks h src k chunk) ≡ chunks_from h src k chunk
    unfolding ask_chunks chunks_from chunk_then chunk_size_turn chunk_crc_turn
    chunks_told zero chunk = told_over _
    chunks_told (suc k) chunk =
        let size = chunk_size src chunk in
        entered_if _ _ _ λ e.
        let m : chunk + 4 ≤ map_end h = leb-true (chunk + 4) (map_end h) e in
        told-span src chunk 1 framing _ tt (omega arith) ∙
        (turn_if (chunk_fits h chunk size) _ _ λ f.
        let l : 2 ≤ size = fits_low h chunk size f in
        let n : chunk + size + 2 ≤ map_end h = fits_end h chunk size f in
        told-passing src (chunk + 2) (size - 2) framing _ tt (omega arith) ∙
        told-span src (chunk + size) 1 framing _ tt (omega arith) ∙
        (turn_if _ _ _ λ g.
        chunk-told chunk size _ n l ∙
        ap (checked_chunk_then h src chunk size) (chunks_told k (chunk + size + 2))))

-- of a header that Start takes and a whole source of it, the account tells the plain list
pub agree : (h : FlatHeader) (src : List ℕ) → Of h src → told (rules h src) ≡ plain_list h src
unfolding rules plain_list map_end
agree h src of =
    let s = started h of.starts in
    let len = of.whole in
    section-told src HeaderVars vars (locator_of h 0).offset (locator_of h 0).size _ (omega (arith, s.vars)) ∙ ap (part_then h src HeaderVars)
    (section-told src Classes classes (locator_of h 1).offset (locator_of h 1).size _ (omega (arith, s.classes)) ∙ ap (part_then h src Classes)
    (chunks_told h src len (omega (arith, s.map)) (map_size h) (map_start h)))
