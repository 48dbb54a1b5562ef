-- From the first cursor on, each step gives the next of the objects that the rules list: no check has to be made again.
use Prim.Native.Nat.{ℕ, zero, suc, ◌+◌, ◌-◌, ◌≤◌, ◌<◌}
use mathlib.Core.Bool.{Bool, true, false}
use mathlib.Core.List.{List, [], ◌∷◌}
use mathlib.Core.Option.{Option, none, some}
use mathlib.Core.Path.{◌≡◌, refl, sym, ap, subst, ◌∙◌}
use native.Mathlib.Omega.{arith}
use lib.ListN.{length, get_or, drop}
use lib.Dec.{eqb}
use borrow.Author.Tests.{eq-eqb, ne_eqb, eqb-true, eqb-false, le-leb}
use Rattle.streaming.specs.Choose.{when◌then◌else◌}
use Rattle.streaming.specs.declared.Part.{Part}
use Rattle.streaming.specs.declared.Part.TheVariants.{HeaderVars, Classes}
use Rattle.streaming.specs.declared.FlatHeader.{FlatHeader}
use Rattle.streaming.specs.declared.ObjectRecord.{ObjectRecord}
use Rattle.streaming.specs.declared.Fault.{Fault}
use Rattle.streaming.proofs.Choose.{in_both}
use Rattle.account.specs.Statement.{part}
use Rattle.account.proofs.Parts.{part-drop, length_part}
use Rattle.rules.specs.Header.{map_start, map_size, map_end, is_r2000}
use Rattle.rules.specs.Source.{Of}
use Rattle.rules.specs.Entry.{Entry, leads, refused, entry_in, followed, entries_from, entries_of}
use Rattle.rules.specs.Prologue.{Prologue}
use Rattle.rules.specs.Object.{Size, sized, unending, Verdict, size_at, object_record, named, verdict}
use Rattle.rules.specs.Map.{chunk_size, chunk_entries}
use Rattle.rules.specs.PlainList.{Listing, require, section_then, verdict_then, sized_then, object_then, entries_then, checked_chunk_then, chunk_then, chunks_from, plain_list}
use Rattle.rules.proofs.Header.{started}
use Rattle.rules.proofs.Entry.{Fits, entry_fits, entries_nil, entries_cons}
use Rattle.rules.proofs.Map.{fits_low, fits_end}
use Rattle.records.specs.Answer.{head_of}
use Rattle.survey.specs.Survey.{objects_of}
use Rattle.oneshot.specs.declared.steps.Cursor.{Cursor}
use Rattle.oneshot.specs.declared.steps.Visit.{Visit}
use Rattle.oneshot.specs.Cursor.{blank, record_of_head, sized_at, record_at, first_cursor, opened_of, in_hand, visit_of, step_of, cursor_at, record_of}

abbrev objects : Listing → List ObjectRecord
objects l = objects_of l.records

-- in a chunk whose entries end at a place, with the next chunk at another
abbrev in_chunk : FlatHeader → (chunk end at handle location : ℕ) → Cursor
in_chunk h chunk end at handle location = record { r2000 = is_r2000 h; chunk = chunk; at = at; end = end; last = record { handle = handle; location = location } }

module _ (src : List ℕ) where
  -- ---- the first steps from a cursor give a list of records

  abbrev pub Gives : Cursor → List ObjectRecord → Type 0
  Gives c l = (i : ℕ) → i < length l → record_of src c i ≡ get_or l i blank

  one_behind : (c : Cursor) (i : ℕ) → cursor_at src c (suc i) ≡ cursor_at src (step_of src c).next i
  one_behind c zero = refl
  one_behind c (suc i) = ap (λ (d : Cursor). (step_of src d).next) (one_behind c i)

  pub gives_none : (c : Cursor) → Gives c []
  gives_none c i h = absurd (omega arith)

  gives_one : (c next : Cursor) (r : ObjectRecord) (l : List ObjectRecord) → step_of src c ≡ record { object = r; next = next } → Gives next l → Gives c (r ∷ l)
  gives_one c next r l e g zero h = ap (λ (v : Visit). v.object) e
  gives_one c next r l e g (suc i) h =
      ap (λ (d : Cursor). (step_of src d).object) (one_behind c i ∙ ap (λ (v : Visit). cursor_at src v.next i) e) ∙ g i (omega arith)

  -- what a cursor gives goes by its first step
  gives_alike : (c d : Cursor) (l : List ObjectRecord) → step_of src c ≡ step_of src d → Gives d l → Gives c l
  gives_alike c d [] e g = gives_none c
  gives_alike c d (r ∷ l) e g =
      gives_one c (step_of src d).next r l (e ∙ ap (λ (z : ObjectRecord). record { object = z; next = (step_of src d).next }) (g 0 (omega arith)))
      λ i h. ap (λ (z : Cursor). (step_of src z).object) (sym (one_behind d i)) ∙ g (suc i) (omega arith)

  gives_if : (c : Cursor) (b : Bool) (f : Fault) (l : Listing) → (b ≡ true → Gives c (objects l)) → Gives c (objects (require b f l))
  unfolding require objects_of
  gives_if c true f l g = g refl
  gives_if c false f l g = gives_none c

  gives_section : (c : Cursor) (p : Part) (start total : ℕ) (l : Listing) → Gives c (objects l) → Gives c (objects (section_then src p start total l))
  unfolding section_then objects_of
  gives_section c p start total l g = gives_if c _ _ _ λ e. gives_if c _ _ _ λ e. gives_if c _ _ _ λ e. gives_if c _ _ _ λ e. gives_if c _ _ _ λ e. g

  -- ---- an object, which an entry leads to

  module _ (h : FlatHeader) (handle location : ℕ) (c next : Cursor)
      (step : step_of src c ≡ record { object = record_at (is_r2000 h) src handle location; next = next })
      (l : Listing) (behind : Gives next (objects l)) where
    gives_named : (size : ℕ) (p : Option Prologue) → record_at (is_r2000 h) src handle location ≡ record_of_head handle location size (head_of p)
        → Gives c (objects (verdict_then (named handle location size p) l))
    unfolding named object_record verdict_then objects_of
    gives_named size none e = gives_none c
    gives_named size (some p) e =
        in_both (λ (v : Verdict). Gives c (objects (verdict_then v l))) _
        (λ t. gives_one c next _ (objects l) (step ∙ ap (λ (r : ObjectRecord). record { object = r; next = next }) e) behind)
        (λ t. gives_none c)

    gives_verdict : (field_bytes size : ℕ) → size_at src location ≡ sized field_bytes size → Gives c (objects (verdict_then (verdict h src handle location field_bytes size) l))
    unfolding verdict verdict_then objects_of record_at
    gives_verdict field_bytes size e =
        in_both (λ (v : Verdict). Gives c (objects (verdict_then v l))) _
        (λ t. gives_named size _ (ap (sized_at (is_r2000 h) src handle location) e))
        (λ t. gives_none c)

    gives_sized : (s : Size) → size_at src location ≡ s → Gives c (objects (sized_then h src handle location s l))
    unfolding sized_then objects_of
    gives_sized unending e = gives_none c
    gives_sized (sized field_bytes size) e = gives_if c _ _ _ λ t. gives_if c _ _ _ λ t. gives_verdict field_bytes size e

    gives_object : Gives c (objects (object_then h src handle location l))
    unfolding object_then objects_of
    gives_object =
        gives_if c _ _ _ λ t. in_both (λ (z : Listing). Gives c (objects z)) _ (λ t. gives_none c) (λ t. gives_sized (size_at src location) refl)

  -- ---- the entries of a chunk

  module _ (h : FlatHeader) (chunk end : ℕ) (inside : end ≤ length src) where
    abbrev within : (at handle location : ℕ) → Cursor
    within = in_chunk h chunk end

    abbrev bytes : (at : ℕ) → List ℕ
    bytes at = part src at (end - at)

    leads_on : (at handle location n hd loc : ℕ) → at < end → entry_in handle location (bytes at) ≡ leads n hd loc
        → step_of src (within at handle location) ≡ record { object = record_at (is_r2000 h) src hd loc; next = within (at + n) hd loc }
    unfolding step_of in_hand when◌then◌else◌ visit_of
    leads_on at handle location n hd loc k e = rw (ne_eqb at end (omega arith), e)

    -- the bytes behind an entry
    bytes-behind : (at n : ℕ) → at ≤ end → n ≤ end - at → drop n (bytes at) ≡ bytes (at + n)
    bytes-behind at n u v =
        let m : end - at - n ≡ end - (at + n) = omega arith in
        part-drop src at n (end - at) v (omega arith) ∙ ap (part src (at + n)) m

    module _ (l : Listing) (behind : (handle location : ℕ) → Gives (within end handle location) (objects l)) where
      -- what a chunk's entries from a place on give
      abbrev Goes : (k at handle location : ℕ) → Type 0
      Goes k at handle location = Gives (within at handle location) (objects (entries_then h src (entries_from k handle location (bytes at)) at l))

      used_up : (k at handle location : ℕ) → end ≡ at → Goes k at handle location
      unfolding entries_then
      used_up k at handle location e =
          let m : 0 ≡ end - at = omega arith in
          subst (λ (z : ℕ). Gives (within at handle location) (objects (entries_then h src (entries_from k handle location (part src at z)) at l))) m
          (subst (λ (es : List Entry). Gives (within at handle location) (objects (entries_then h src es at l))) (sym (entries_nil k handle location))
          (subst (λ (m : ℕ). Gives (within m handle location) (objects l)) e (behind handle location)))

      one_entry : (k at handle location : ℕ) → at < end → ((n hd loc : ℕ) → 2 ≤ n → at + n ≤ end → Goes k (at + n) hd loc)
          → (e : Entry) → entry_in handle location (bytes at) ≡ e → Fits (length (bytes at)) e
          → Gives (within at handle location) (objects (entries_then h src (followed e λ n hd loc. entries_from k hd loc (drop n (bytes at))) at l))
      unfolding entries_then followed objects_of
      one_entry k at handle location u on (refused n) e fits = gives_none _
      one_entry k at handle location u on (leads n hd loc) e fits =
          let m : length (bytes at) ≡ end - at = length_part src at (end - at) (omega arith) in
          let v : n ≤ end - at = omega (arith, fits.1) in
          gives_object h hd loc (within at handle location) (within (at + n) hd loc) (leads_on at handle location n hd loc u e) _
          (subst (λ (bs : List ℕ). Gives (within (at + n) hd loc) (objects (entries_then h src (entries_from k hd loc bs) (at + n) l))) (sym (bytes-behind at n (omega arith) v))
          (on n hd loc fits.0 (omega arith)))

      gives_entries : (k at handle location : ℕ) → at ≤ end → end ≤ at + k → Goes k at handle location
      gives_entries zero at handle location u v = used_up zero at handle location (omega arith)
      gives_entries (suc k) at handle location u v = split (eqb end at) refl λ n hd loc m w. gives_entries k (at + n) hd loc w (omega arith)
        where
          split : (b : Bool) → eqb end at ≡ b → ((n hd loc : ℕ) → 2 ≤ n → at + n ≤ end → Goes k (at + n) hd loc) → Goes (suc k) at handle location
          split true t on = used_up (suc k) at handle location (eqb-true end at t)
          split false t on =
              let w : at < end = omega (arith, eqb-false end at t) in
              let m : 1 ≤ length (bytes at) = omega (arith, length_part src at (end - at) (omega arith)) in
              subst (λ (es : List Entry). Gives (within at handle location) (objects (entries_then h src es at l))) (sym (entries_cons k handle location (bytes at) m))
              (one_entry k at handle location w on (entry_in handle location (bytes at)) refl (entry_fits handle location (bytes at) m))

  -- ---- the chunks of the map

  module _ (h : FlatHeader) (inside : map_end h ≤ length src) where
    -- the next chunk is opened where the entries of the last, wherever that ended, are used up
    opens : (chunk at handle location : ℕ) → chunk + chunk_size src chunk + 2 ≤ length src → 2 < chunk_size src chunk
        → step_of src (in_chunk h chunk at at handle location)
        ≡ step_of src (in_chunk h (chunk + chunk_size src chunk + 2) (chunk + chunk_size src chunk) (chunk + 2) 0 0)
    unfolding step_of in_hand opened_of when◌then◌else◌
    opens chunk at handle location u v = rw (eq-eqb at at refl, le-leb _ _ u, ne_eqb (chunk + 2) (chunk + chunk_size src chunk) (omega arith))

    gives_chunk : (chunk at handle location : ℕ) (l : Listing) → chunk + chunk_size src chunk + 2 ≤ length src → 2 < chunk_size src chunk
        → ((hd loc : ℕ) → Gives (in_chunk h (chunk + chunk_size src chunk + 2) (chunk + chunk_size src chunk) (chunk + chunk_size src chunk) hd loc) (objects l))
        → Gives (in_chunk h chunk at at handle location) (objects (entries_then h src (chunk_entries src chunk (chunk_size src chunk)) (chunk + 2) l))
    unfolding chunk_entries
    gives_chunk chunk at handle location l u v behind =
        let size = chunk_size src chunk in
        let end = chunk + size in
        let bytes = part src (chunk + 2) (end - (chunk + 2)) in
        let m : end - (chunk + 2) ≡ size - 2 = omega arith in
        let n : length bytes ≡ end - (chunk + 2) = length_part src (chunk + 2) _ (omega arith) in
        subst (λ (z : ℕ). Gives (in_chunk h chunk at at handle location) (objects (entries_then h src (entries_of (part src (chunk + 2) z)) (chunk + 2) l))) m
        (gives_alike (in_chunk h chunk at at handle location) (in_chunk h (end + 2) end (chunk + 2) 0 0) (objects (entries_then h src (entries_of bytes) (chunk + 2) l))
        (opens chunk at handle location u v)
        (gives_entries h (end + 2) end (omega arith) l behind (length bytes) (chunk + 2) 0 0 (omega arith) (omega arith)))

    gives_chunks : (k chunk at handle location : ℕ) → Gives (in_chunk h chunk at at handle location) (objects (chunks_from h src k chunk))
    unfolding chunks_from chunk_then checked_chunk_then objects_of
    gives_chunks zero chunk at handle location = gives_none _
    gives_chunks (suc k) chunk at handle location =
        let size = chunk_size src chunk in
        let c = in_chunk h chunk at at handle location in
        gives_if c _ _ _ λ t. gives_if c _ _ _ λ fits. gives_if c _ _ _ λ t.
        in_both (λ (l : Listing). Gives c (objects l)) _ (λ two. gives_if c _ _ _ λ t. gives_none c)
        (λ more.
        gives_chunk chunk at handle location (chunks_from h src k (chunk + size + 2))
        (omega (arith, fits_end h chunk size fits)) (omega (arith, fits_low h chunk size fits, eqb-false size 2 more))
        (gives_chunks k (chunk + size + 2) (chunk + size)))

  -- ---- all of a drawing

  pub gives_objects : (h : FlatHeader) → Of h src → Gives (first_cursor h) (objects (plain_list h src))
  unfolding plain_list map_end
  gives_objects h of =
      let s = started h of.starts in
      let inside : map_end h ≤ length src = omega (arith, s.map, of.whole) in
      gives_section _ HeaderVars _ _ _ (gives_section _ Classes _ _ _ (gives_chunks h inside (map_size h) (map_start h) 0 0 0))
