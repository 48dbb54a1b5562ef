-- One induction over the plain list: what each of its steps keeps, it has.
use Rattle.std.specs.Prelude.{Ok, None}
use Prim.Native.Nat.{ℕ, zero, suc, ◌+◌, ◌-◌, ◌≤◌}
use mathlib.Core.Bool.{Bool, true, false}
use mathlib.Core.List.{List, [], ◌∷◌}
use mathlib.Core.Path.{◌≡◌, refl}
use native.Mathlib.Omega.{arith}
use Rattle.streaming.specs.Record.{section, object}
use Rattle.streaming.specs.declared.Part.{Part}
use Rattle.streaming.specs.declared.Part.TheVariants.{HeaderVars, Classes}
use Rattle.streaming.specs.declared.SectionRecord.{SectionRecord}
use Rattle.streaming.specs.declared.ObjectRecord.{ObjectRecord}
use Rattle.streaming.specs.declared.FlatHeader.{FlatHeader}
use Rattle.streaming.specs.declared.Fault.{Fault}
use Rattle.streaming.proofs.Choose.{in_both}
use Rattle.account.specs.Account.{demand, broken}
use Rattle.rules.specs.Header.{map_start, map_size, map_end}
use Rattle.rules.specs.Entry.{Entry, leads, refused}
use Rattle.rules.specs.Object.{Size, sized, unending, Verdict, holds, fails, may_start, size_at, verdict}
use Rattle.rules.specs.Map.{chunk_size, chunk_entries, chunk_fits}
use Rattle.rules.specs.PlainList.{Listing, stop, first, require, section_then, verdict_then, sized_then, lacks_second_word, object_then}
use Rattle.rules.specs.PlainList.{entries_then, checked_chunk_then, chunk_then, chunks_from, plain_list}
use Rattle.rules.proofs.Entry.{Within}
use Rattle.rules.proofs.Map.{fits_low, fits_end, chunk-within}

-- A property of listings that come of so many bytes of the map. An object comes of two of them at least.
pub record PlainKept (h : FlatHeader) (src : List ℕ) (P : (room : ℕ) → Listing → Type 0) : Type 0 where
  pub stopped : (room : ℕ) (f : Fault) → P room (stop (broken f))
  pub finishing : (room : ℕ) → P room (stop (Ok None))
  pub stalled : (room location : ℕ) → may_start h location ≡ true → lacks_second_word h src location ≡ true
      → P room (stop (demand h.length (location + 4 - h.length)))
  pub sections : (room : ℕ) (r : SectionRecord) (l : Listing) → P room l → P room (first (section r) l)
  pub objects : (room : ℕ) (r : ObjectRecord) (l : Listing) → P room l → P (2 + room) (first (object r) l)
  pub wider : (room more : ℕ) (l : Listing) → room ≤ more → P room l → P more l

module _ (h : FlatHeader) (src : List ℕ) (P : (room : ℕ) → Listing → Type 0) (kept : PlainKept h src P) where
  keeps_require : (room : ℕ) (b : Bool) (f : Fault) (l : Listing) → (b ≡ true → P room l) → P room (require b f l)
  unfolding require
  keeps_require room true f l k = k refl
  keeps_require room false f l k = kept.stopped room f

  keeps_section : (room : ℕ) (p : Part) (start total : ℕ) (l : Listing) → P room l → P room (section_then src p start total l)
  unfolding section_then
  keeps_section room p start total l k =
      keeps_require room _ _ _ λ e. keeps_require room _ _ _ λ e. keeps_require room _ _ _ λ e. keeps_require room _ _ _ λ e. keeps_require room _ _ _ λ e.
      kept.sections room _ l k

  keeps_verdict : (room : ℕ) (v : Verdict) (l : Listing) → P room l → P (2 + room) (verdict_then v l)
  unfolding verdict_then
  keeps_verdict room (holds r) l k = kept.objects room r l k
  keeps_verdict room (fails f) l k = kept.stopped (2 + room) f

  keeps_sized : (room handle location : ℕ) (s : Size) (l : Listing) → P room l → P (2 + room) (sized_then h src handle location s l)
  unfolding sized_then
  keeps_sized room handle location unending l k = kept.stopped (2 + room) _
  keeps_sized room handle location (sized bytes size) l k =
      keeps_require (2 + room) _ _ _ λ e. keeps_require (2 + room) _ _ _ λ e. keeps_verdict room (verdict h src handle location bytes size) l k

  keeps_object : (room handle location : ℕ) (l : Listing) → P room l → P (2 + room) (object_then h src handle location l)
  unfolding object_then
  keeps_object room handle location l k =
      keeps_require (2 + room) (may_start h location) _ _ λ e.
      in_both (P (2 + room)) _
      (λ f. kept.stalled (2 + room) location e f) (λ f. keeps_sized room handle location (size_at src location) l k)

  keeps_entries : (es : List Entry) (inside at room : ℕ) (l : Listing) → Within inside es → P room l → P (inside + room) (entries_then h src es at l)
  unfolding entries_then
  keeps_entries [] inside at room l w k = kept.wider room (inside + room) l (omega arith) k
  keeps_entries (leads bytes handle location ∷ more) inside at room l w k =
      kept.wider (2 + ((inside - bytes) + room)) (inside + room) _ (omega (arith, w.0, w.1))
      (keeps_object _ handle location _ (keeps_entries more (inside - bytes) (at + bytes) room l w.2 k))
  keeps_entries (refused bytes ∷ more) inside at room l w k = kept.stopped (inside + room) _

  keeps_chunk : (chunk size room : ℕ) (l : Listing) → P room l → P ((size - 2) + room) (checked_chunk_then h src chunk size l)
  unfolding checked_chunk_then
  keeps_chunk chunk size room l k =
      in_both (P ((size - 2) + room)) _
      (λ e. keeps_require _ _ _ _ λ f. kept.finishing _)
      λ e.
      let w = chunk-within src chunk size in
      kept.wider (w.0 + room) ((size - 2) + room) _ (omega (arith, w.1)) (keeps_entries (chunk_entries src chunk size) w.0 (chunk + 2) room l w.2 k)

  keeps_chunks : (k chunk : ℕ) → P (map_end h - chunk) (chunks_from h src k chunk)
  unfolding chunks_from chunk_then
  keeps_chunks zero chunk = kept.stopped _ _
  keeps_chunks (suc k) chunk =
      let size = chunk_size src chunk in
      keeps_require _ _ _ _ λ e.
      keeps_require _ (chunk_fits h chunk size) _ _ λ f.
      keeps_require _ _ _ _ λ g.
      kept.wider ((size - 2) + (map_end h - (chunk + size + 2))) (map_end h - chunk) _ (omega (arith, fits_low h chunk size f, fits_end h chunk size f))
      (keeps_chunk chunk size _ _ (keeps_chunks k (chunk + size + 2)))

  pub plain_keeps : P (map_size h) (plain_list h src)
  unfolding plain_list map_end
  plain_keeps =
      keeps_section _ HeaderVars _ _ _ (keeps_section _ Classes _ _ _
      (kept.wider (map_start h + map_size h - map_start h) (map_size h) _ (omega arith) (keeps_chunks (map_size h) (map_start h))))
