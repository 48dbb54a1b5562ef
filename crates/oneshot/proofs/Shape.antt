-- The plain list has its sections first and then objects only: so what the answer and the list tell is all of it, in its order.
use Prim.Native.Nat.{ℕ, zero, suc, ◌+◌}
use mathlib.Core.Bool.{Bool, true, false}
use mathlib.Core.List.{List, [], ◌∷◌, ◌++◌, map}
use mathlib.Core.Path.{◌≡◌, refl, ap}
use Rattle.streaming.specs.Record.{Record, section, object}
use Rattle.streaming.specs.declared.Part.{Part}
use Rattle.streaming.specs.declared.Part.TheVariants.{HeaderVars, Classes}
use Rattle.streaming.specs.declared.FlatHeader.{FlatHeader}
use Rattle.streaming.specs.declared.SectionRecord.{SectionRecord}
use Rattle.streaming.specs.declared.Fault.{Fault}
use Rattle.streaming.proofs.Choose.{in_both}
use Rattle.account.specs.Account.{broken}
use Rattle.rules.specs.Header.{map_start, map_size}
use Rattle.rules.specs.Entry.{Entry, leads, refused}
use Rattle.rules.specs.Object.{Size, sized, unending, Verdict, holds, fails, size_at, verdict}
use Rattle.rules.specs.Map.{chunk_size, chunk_entries}
use Rattle.rules.specs.PlainList.{Listing, stop, first, require, section_then, verdict_then, sized_then, object_then, entries_then, checked_chunk_then, chunk_then, chunks_from, plain_list}
use Rattle.survey.specs.Survey.{sections_of, objects_of, found_at}
use Rattle.oneshot.specs.OneShot.{found}

-- ---- the map gives objects only

abbrev Only : Listing → Type 0
Only l = l.records ≡ map object (objects_of l.records)

only_if : (b : Bool) (f : Fault) (l : Listing) → Only l → Only (require b f l)
unfolding require objects_of
only_if true f l k = k
only_if false f l k = refl

module _ (h : FlatHeader) (src : List ℕ) where
  only_verdict : (v : Verdict) (l : Listing) → Only l → Only (verdict_then v l)
  unfolding verdict_then objects_of
  only_verdict (holds r) l k = ap (λ (rs : List Record). object r ∷ rs) k
  only_verdict (fails f) l k = refl

  only_sized : (handle location : ℕ) (s : Size) (l : Listing) → Only l → Only (sized_then h src handle location s l)
  unfolding sized_then objects_of
  only_sized handle location unending l k = refl
  only_sized handle location (sized bytes size) l k = only_if _ _ _ (only_if _ _ _ (only_verdict (verdict h src handle location bytes size) l k))

  only_object : (handle location : ℕ) (l : Listing) → Only l → Only (object_then h src handle location l)
  unfolding object_then objects_of
  only_object handle location l k = only_if _ _ _ (in_both Only _ (λ t. refl) (λ t. only_sized handle location (size_at src location) l k))

  only_entries : (es : List Entry) (at : ℕ) (l : Listing) → Only l → Only (entries_then h src es at l)
  unfolding entries_then objects_of
  only_entries [] at l k = k
  only_entries (leads bytes handle location ∷ more) at l k = only_object handle location _ (only_entries more (at + bytes) l k)
  only_entries (refused bytes ∷ more) at l k = refl

  only_chunks : (k chunk : ℕ) → Only (chunks_from h src k chunk)
  unfolding chunks_from chunk_then checked_chunk_then objects_of
  only_chunks zero chunk = refl
  only_chunks (suc k) chunk =
      let size = chunk_size src chunk in
      only_if _ _ _ (only_if _ _ _ (only_if _ _ _
      (in_both Only _ (λ t. only_if _ _ (stop _) refl) (λ t. only_entries (chunk_entries src chunk size) (chunk + 2) _ (only_chunks k (chunk + size + 2))))))

-- ---- a section comes first, or the list stops there

module _ (P : Listing → Type 0) (stops : (f : Fault) → P (stop (broken f))) where
  stops_or : (b : Bool) (f : Fault) (l : Listing) → P l → P (require b f l)
  unfolding require
  stops_or true f l k = k
  stops_or false f l k = stops f

  section-first : (src : List ℕ) (p : Part) (start total : ℕ) (l : Listing) → ((r : SectionRecord) → P (first (section r) l)) → P (section_then src p start total l)
  unfolding section_then
  section-first src p start total l goes = stops_or _ _ _ (stops_or _ _ _ (stops_or _ _ _ (stops_or _ _ _ (stops_or _ _ _ (goes _)))))

-- ---- the whole list

abbrev pub InOrder : Listing → Type 0
InOrder l = l.records ≡ found (found_at 0 (sections_of l.records)) ++ found (found_at 1 (sections_of l.records)) ++ map object (objects_of l.records)

pub in_order : (h : FlatHeader) (src : List ℕ) → InOrder (plain_list h src)
unfolding plain_list sections_of objects_of
in_order h src =
    section-first InOrder (λ f. refl) src HeaderVars _ _ _
    λ a. section-first (λ (l : Listing). InOrder (first (section a) l)) (λ f. refl) src Classes _ _ _
    λ b. ap (λ (rs : List Record). section a ∷ section b ∷ rs) (only_chunks h src (map_size h) (map_start h))
