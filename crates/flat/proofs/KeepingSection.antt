-- A piece of a section keeps fitness.
use Rattle.std.proofs.lemmas.Bool.{and_from}
use Prim.Native.Nat.{ℕ, ◌+◌, ◌-◌, ◌≤◌, ◌<◌}
use mathlib.Core.Bool.{Bool, true, false, ◌&&◌}
use mathlib.Core.List.{List}
use mathlib.Core.Path.{◌≡◌, refl, ◌∙◌}
use native.Mathlib.Omega.{arith}
use lib.ListN.{length}
use lib.Dec.{ltb, leb, eqb}
use borrow.Author.Tests.{ltb-true, ltb-false, leb-true, eqb-true, lt-ltb, le-ltb, eq-eqb}
use Rattle.octets.specs.Octets.{same}
use Rattle.streaming.specs.Choose.{when◌then◌else◌}
use Rattle.streaming.specs.Numbers.{part_number}
use Rattle.streaming.specs.State.{in_unit}
use Rattle.streaming.specs.declared.FlatWalker.{FlatWalker}
use Rattle.streaming.specs.declared.Stage.{Stage}
use Rattle.streaming.specs.declared.Fed.{Fed}
use Rattle.streaming.proofs.Choose.{in_both, and_left, and_right}
use Rattle.account.specs.Statement.{part}
use Rattle.rules.specs.Header.{locator_of}
use Rattle.rules.specs.Section.{frame, start_sentinel, end_sentinel}
use Rattle.chunk.specs.Fit.{no_object, no_entry}
use Rattle.section.specs.Section.{part_of, section_of, enter_section, enter_next, section_end, request_section, settle_section_size, settle_section_crc, settle_section, feed_section_start, feed_section_size, feed_section_data, feed_section_crc, feed_section_end, feed_section}
use Rattle.section.specs.Fit.{section_done, fit_section, FitSection}
use Rattle.flat.specs.Fit.{fit_at}
use Rattle.section.proofs.Fitness.{fit_section_shows}
use Rattle.flat.proofs.Keeping.{Keeps, Taken, keeps_failing, keeps_at, below}

-- the map and the objects are untouched
abbrev pub untouched : FlatWalker → Bool
untouched s = no_object s && (no_entry s.map && eqb s.map.chunk 0)

-- ---- entering one

module _ (s : FlatWalker) (g : Stage) (taken : Taken s) (own : (t : FlatWalker) → fit_at g t ≡ fit_section t) (clear : untouched s ≡ true) where
  entered : leb frame (locator_of s.header (part_number (part_of g))).size ≡ true → fit_section (in_unit s g 0 0 s.crc s.field) ≡ true
  unfolding fit_section section_done no_object when◌then◌else◌
  entered e =
      let framed : frame ≤ (locator_of s.header (part_number (part_of g))).size = leb-true _ _ e in
      let inside : 0 < (locator_of s.header (part_number (part_of g))).size = omega arith in
      search (and_from, lt-ltb)

  pub keeps_enter_section : Keeps (enter_section s g)
  unfolding enter_section
  keeps_enter_section =
      in_both Keeps (leb frame (locator_of s.header (part_number (part_of g))).size)
      (λ e. keeps_at (in_unit s g 0 0 s.crc s.field) taken (own _ ∙ entered e))
      (λ e. keeps_failing (in_unit s g 0 0 s.crc s.field) _)

-- ---- in one

pub fit_section_untouched : (s : FlatWalker) → fit_section s ≡ true → untouched s ≡ true
unfolding fit_section
fit_section_untouched s e = search and_left

module _ (s : FlatWalker) (taken : Taken s) (own : (t : FlatWalker) → fit_at s.stage t ≡ fit_section t) (fit : fit_section s ≡ true) where
  shows : FitSection s
  shows = fit_section_shows s fit

  moved : (done size crc : ℕ) (field : List ℕ) → ltb done (section_of s).size ≡ true
      → section_done (section_of s).size done size ≡ true → fit_section (in_unit s s.stage done size crc field) ≡ true
  unfolding fit_section no_object
  moved done size crc field e k = search (and_from, and_left, and_right)

  -- the section stays in hand, before its size is whole
  before : (done crc : ℕ) (field : List ℕ) → s.done < 20 → done < 20 → Keeps (in_unit s s.stage done s.size crc field)
  unfolding section_done when◌then◌else◌
  before done crc field early k =
      let framed = shows.framed in
      keeps_at (in_unit s s.stage done s.size crc field) taken
      (own _ ∙ moved done s.size crc field (lt-ltb done _ (omega arith)) (rw (lt-ltb done 20 k) (eq-eqb _ _ (shows.early early))))

  -- and behind it
  behind : (done size crc : ℕ) (field : List ℕ) → 20 ≤ done → frame + size ≡ (section_of s).size → done < frame + size
      → Keeps (in_unit s s.stage done size crc field)
  unfolding section_done when◌then◌else◌
  behind done size crc field late whole inside =
      keeps_at (in_unit s s.stage done size crc field) taken
      (own _ ∙ moved done size crc field (lt-ltb done _ (omega arith)) (rw (le-ltb done 20 late) (eq-eqb _ _ whole)))

  at_size : (crc : ℕ) (field : List ℕ) (size : ℕ) → Keeps (settle_section_size s crc field size).state
  unfolding settle_section_size
  at_size crc field size =
      in_both (λ (r : Fed). Keeps r.state) (eqb (frame + size) (section_of s).size)
      (λ e. behind 20 size crc field (omega arith) (eqb-true _ _ e) (omega arith))
      (λ e. keeps_failing s _)

  at_crc : (field : List ℕ) (stored : ℕ) → 20 ≤ s.done → Keeps (settle_section_crc s field stored).state
  unfolding settle_section_crc
  at_crc field stored late =
      in_both (λ (r : Fed). Keeps r.state) (eqb stored s.crc)
      (λ e. behind (22 + s.size) s.size s.crc field (omega arith) (shows.late late) (omega arith))
      (λ e. keeps_failing s _)

  module _ (next : Keeps (enter_next s.stage s)) (piece : List ℕ) (fits : length piece ≤ (request_section s).len) where
    in_start : s.done < 16 → length piece ≤ 16 - s.done → Keeps (feed_section_start s piece).state
    unfolding feed_section_start
    in_start early most =
        in_both (λ (r : Fed). Keeps r.state) (same piece (part (start_sentinel (part_of s.stage)) s.done (length piece)))
        (λ e. before _ _ _ (omega arith) (omega arith))
        (λ e. keeps_failing s _)

    in_size : s.done < 20 → length piece ≤ 20 - s.done → Keeps (feed_section_size s piece).state
    unfolding feed_section_size
    in_size early most =
        in_both (λ (r : Fed). Keeps r.state) (eqb (s.done + length piece) 20)
        (λ e. at_size _ _ _)
        (λ e. before _ _ _ early (below (s.done + length piece) 20 (omega arith) e))

    in_data : 20 ≤ s.done → s.done < 20 + s.size → length piece ≤ 20 + s.size - s.done → Keeps (feed_section_data s piece).state
    unfolding feed_section_data
    in_data late inside most = behind (s.done + length piece) s.size _ _ (omega arith) (shows.late late) (omega arith)

    in_crc : 20 ≤ s.done → s.done < 22 + s.size → length piece ≤ 22 + s.size - s.done → Keeps (feed_section_crc s piece).state
    unfolding feed_section_crc
    in_crc late inside most =
        in_both (λ (r : Fed). Keeps r.state) (eqb (s.done + length piece) (22 + s.size))
        (λ e. at_crc _ _ late)
        (λ e. behind (s.done + length piece) s.size _ _ (omega arith) (shows.late late) (omega arith))

    in_end : 20 ≤ s.done → length piece ≤ frame + s.size - s.done → Keeps (feed_section_end s piece).state
    unfolding feed_section_end settle_section
    in_end late most =
        let whole = shows.late late in
        let inside = shows.inside in
        in_both (λ (r : Fed). Keeps r.state) (same piece (part (end_sentinel (part_of s.stage)) (s.done - (22 + s.size)) (length piece)))
        (λ q. in_both (λ (r : Fed). Keeps r.state) (eqb (s.done + length piece) (frame + s.size))
        (λ e. next)
        (λ e. behind (s.done + length piece) s.size _ _ (omega arith) whole (below (s.done + length piece) (frame + s.size) (omega arith) e)))
        (λ q. keeps_failing s _)

    pub keeps_section : Keeps (feed_section s piece).state
    unfolding feed_section request_section section_end when◌then◌else◌
    keeps_section = split (ltb s.done 16) refl (ltb s.done 20) refl (ltb s.done (20 + s.size)) refl (ltb s.done (22 + s.size)) refl
      where
        split : (a : Bool) → ltb s.done 16 ≡ a → (b : Bool) → ltb s.done 20 ≡ b → (c : Bool) → ltb s.done (20 + s.size) ≡ c
            → (d : Bool) → ltb s.done (22 + s.size) ≡ d → Keeps (feed_section s piece).state
        split true e b f c k d l = rw e (in_start (ltb-true _ _ e) (rw e at fits))
        split false e true f c k d l = rw (e, f) (in_size (ltb-true _ _ f) (rw (e, f) at fits))
        split false e false f true k d l = rw (e, f, k) (in_data (ltb-false _ _ f) (ltb-true _ _ k) (rw (e, f, k) at fits))
        split false e false f false k true l = rw (e, f, k, l) (in_crc (ltb-false _ _ f) (ltb-true _ _ l) (rw (e, f, k, l) at fits))
        split false e false f false k false l = rw (e, f, k, l) (in_end (ltb-false _ _ f) (rw (e, f, k, l) at fits))
