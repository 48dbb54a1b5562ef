-- How many bytes a walk takes at most: document 01's bound, unit by unit.
use Prim.Native.Nat.{ℕ, zero, suc, ◌+◌, ◌*◌, ◌-◌, ◌/◌, ◌≤◌}
use mathlib.Core.List.{List, [], ◌∷◌}
use mathlib.Core.Path.{◌≡◌}
use native.Mathlib.Omega.{arith}
use native.Mathlib.Nat.{add-mul, suc-mul, mul-le-mul_right}
use lib.ListN.{length}
use lib.Dec.{leb, eqb}
use borrow.Author.Tests.{leb-true, eqb-true}
use Rattle.streaming.specs.declared.Part.{Part}
use Rattle.streaming.specs.declared.Part.TheVariants.{HeaderVars, Classes}
use Rattle.streaming.specs.declared.FlatHeader.{FlatHeader}
use Rattle.streaming.proofs.Choose.{in_both}
use Rattle.account.specs.Account.{Account, framing, bytes_at_most}
use Rattle.account.specs.Asking.{span}
use Rattle.rules.specs.Header.{locator_of, map_start, map_size, map_end}
use Rattle.rules.specs.Section.{start_sentinel, end_sentinel, frame, section_size}
use Rattle.rules.specs.Section.{ask_section_end, section_crc_turn, ask_section_data, section_size_turn, ask_section}
use Rattle.rules.specs.Entry.{Entry, leads, refused}
use Rattle.rules.specs.Object.{Size, sized, unending, is_last, Verdict, holds, fails, may_start, may_end, first_word, size_at, verdict}
use Rattle.rules.specs.Object.{verdict_turn, ask_object_data, object_size_turn, ask_object, object_turn}
use Rattle.rules.specs.Map.{chunk_size, chunk_entries, chunk_fits}
use Rattle.rules.specs.Map.{ask_entries, chunk_turn, chunk_crc_turn, chunk_size_turn, ask_chunks}
use Rattle.rules.specs.Rules.{rules}
use Rattle.rules.proofs.Section.{IsSection, vars, classes, length-start, length_end}
use Rattle.rules.proofs.Entry.{Within}
use Rattle.rules.proofs.Object.{start-behind, start-inside, end_inside}
use Rattle.rules.proofs.Map.{fits_low, fits_end, chunk-within}
use Rattle.rules.proofs.Taken.{Takes, Behind, takes-over, takes_less, behind_go, behind-bad, behind_less, takes-span, takes-one_by_one, takes-spell}

-- ---- a section takes no more than its locator's size

module _ (src : List ℕ) (p : Part) (is : IsSection p) (start total m : ℕ) (next : Account) (k : Takes m next) where
  data_takes : (size : ℕ) → Takes (size + (2 + (16 + m))) (ask_section_data src p start next size)
  unfolding ask_section_data section_crc_turn ask_section_end
  data_takes size =
      takes-span src (2 + (16 + m)) size _ _ _ tt (behind_go _ _ _ (takes-span src (16 + m) 2 _ _ _ tt
      (in_both (Behind (16 + m)) _
      (λ e. behind_go _ _ _ (rw (← length_end is) (takes-spell src m _ (end_sentinel p) _ _ (behind_go m _ next k))))
      (λ e. behind-bad _ _))))

  section-takes : Takes (total + m) (ask_section src p start total next)
  unfolding ask_section section_size_turn
  section-takes =
      in_both (Takes (total + m)) (leb frame total)
      (λ e. let l : 38 ≤ total = leb-true frame total e in
      takes_less (length (start_sentinel p) + (4 + ((total - 20) + m))) (total + m) _
      (takes-spell src _ _ (start_sentinel p) _ _ (behind_go _ _ _ (takes-span src _ 4 _ _ _ tt
      (in_both (Behind ((total - 20) + m)) (eqb (frame + section_size src start) total)
      (λ f. let z : frame + section_size src start ≡ total = eqb-true (frame + section_size src start) total f in
      behind_go _ _ _ (takes_less _ ((total - 20) + m) _ (data_takes (section_size src start)) (omega arith)))
      (λ f. behind-bad _ _)))))
      (omega (arith, length-start is)))
      (λ e. takes-over _ _)

-- ---- an object takes no more than the source's length

module _ (h : FlatHeader) (src : List ℕ) (handle location m : ℕ) (next : Account) (k : Takes m next) where
  verdict-behind : (v : Verdict) → Behind m (verdict_turn next v)
  unfolding verdict_turn
  verdict-behind (holds r) = behind_go m _ next k
  verdict-behind (fails f) = behind-bad m f

  -- it begins behind 43 bytes at least
  size_behind : (s : Size) → 43 ≤ location → Behind ((h.length - 43) + m) (object_size_turn h src handle location next s)
  unfolding object_size_turn ask_object_data
  size_behind unending l = behind-bad _ _
  size_behind (sized n size) l =
      in_both (Behind ((h.length - 43) + m)) _
      (λ e. in_both (Behind ((h.length - 43) + m)) (may_end h location (location + n + size + 2))
      (λ f. let z : location + n + size + 2 ≤ h.length = end_inside h location (location + n + size + 2) f in
      behind_go _ _ _ (takes_less (size + (2 + m)) _ _
      (takes-span src _ size _ _ _ tt (behind_go _ _ _ (takes-span src m 2 _ _ _ tt (verdict-behind (verdict h src handle location n size)))))
      (omega arith)))
      (λ f. behind-bad _ _))
      (λ e. behind-bad _ _)

  object-behind : Behind (h.length + m) (object_turn h src handle location next)
  unfolding object_turn ask_object
  object-behind =
      in_both (Behind (h.length + m)) (may_start h location)
      (λ e. let a : 43 + 9 * h.count ≤ location = start-behind h location e in
      let b : location + 2 ≤ h.length = start-inside h location e in
      let s = size_behind (size_at src location) (omega arith) in
      behind_go _ _ _ (takes_less (2 + (2 + ((h.length - 43) + m))) _ _ (takes-span src _ 2 _ _ _ tt
      (in_both (Behind (2 + ((h.length - 43) + m))) (is_last (first_word src location))
      (λ f. behind_less _ _ _ s (omega arith))
      (λ f. behind_go _ _ _ (takes-span src _ 2 _ _ _ tt s)))) (omega arith)))
      (λ e. behind-bad _ _)

-- ---- the map is read twice, and every two bytes of it lead to an object

entry_count : List Entry → ℕ
entry_count [] = 0
entry_count (leads bytes handle location ∷ more) = suc (entry_count more)
entry_count (refused bytes ∷ more) = 0

entries_half : (es : List Entry) (room : ℕ) → Within room es → 2 * entry_count es ≤ room
unfolding entry_count
entries_half [] room w = omega arith
entries_half (leads bytes handle location ∷ more) room w = omega (arith, w.0, w.1, entries_half more (room - bytes) w.2)
entries_half (refused bytes ∷ more) room w = omega arith

module _ (h : FlatHeader) (src : List ℕ) where
  entries_take : (es : List Entry) (room at m : ℕ) (next : Account) → Within room es → Takes m next
      → Takes (room + entry_count es * h.length + m) (ask_entries h src es at next)
  unfolding ask_entries entry_count
  entries_take [] room at m next w k = takes_less m _ _ k (omega arith)
  entries_take (leads bytes handle location ∷ more) room at m next w k =
      takes_less (bytes + (h.length + ((room - bytes) + entry_count more * h.length + m))) _ _
      (takes-one_by_one src _ bytes at _ (object-behind h src handle location _ _ (entries_take more (room - bytes) (at + bytes) m next w.2 k)))
      (omega (arith, w.1, suc-mul (entry_count more) h.length))
  entries_take (refused bytes ∷ more) room at m next w k =
      takes_less (bytes + 0) _ _ (takes-one_by_one src 0 bytes at _ (behind-bad 0 _)) (omega (arith, w.1))

  -- the account of the map from a chunk on, with so many bytes to the map's end
  record Spent (room : ℕ) (a : Account) : Type 0 where
    objects : ℕ
    half : 2 * objects ≤ room
    takes : Takes (2 * room + objects * h.length) a

  chunk_spent : (chunk size room : ℕ) (next : Account) → 2 ≤ size → Spent room next
      → (n : ℕ) × (2 * n ≤ (size - 2) + room) × Behind ((size - 2) + 2 * room + n * h.length) (chunk_turn h src chunk size next)
  unfolding chunk_turn
  chunk_spent chunk size room next l s =
      let w = chunk-within src chunk size in
      let es = chunk_entries src chunk size in
      let c = entry_count es in
      let a : 2 * c ≤ w.0 = entries_half es w.0 w.2 in (
        c + s.objects,
        omega (arith, w.1, s.half),
        in_both (Behind ((size - 2) + 2 * room + (c + s.objects) * h.length)) _
            (λ e. in_both (Behind _) _ (λ f. behind_go _ _ _ (takes-over _ _)) (λ f. behind-bad _ _))
            (λ e. behind_go _ _ _ (takes_less (w.0 + c * h.length + (2 * room + s.objects * h.length)) _ _
            (entries_take es w.0 (chunk + 2) _ next w.2 s.takes) (omega (arith, w.1, add-mul c s.objects h.length)))),
      )

  sized_spent : (chunk size : ℕ) (next : Account) → chunk + 4 ≤ map_end h → Spent (map_end h - (chunk + size + 2)) next
      → Spent (map_end h - chunk) (span src chunk 2 framing (chunk_size_turn h src chunk size next))
  unfolding chunk_size_turn chunk_crc_turn
  sized_spent chunk size next x s =
      in_both (λ t. Spent (map_end h - chunk) (span src chunk 2 framing t)) (chunk_fits h chunk size)
      (λ e. let l : 2 ≤ size = fits_low h chunk size e in
      let m : chunk + size + 2 ≤ map_end h = fits_end h chunk size e in
      let c = chunk_spent chunk size (map_end h - (chunk + size + 2)) next l s in
      let n = (size - 2) + 2 * (map_end h - (chunk + size + 2)) + c.0 * h.length in
      record {
        objects = c.0;
        half = omega (arith, c.1);
        takes = takes_less (2 + ((size - 2) + (2 + n))) _ _
            (takes-span src _ 2 _ _ _ tt (behind_go _ _ _ (takes-span src _ (size - 2) _ _ _ tt (behind_go _ _ _ (takes-span src n 2 _ _ _ tt
            (in_both (Behind n) _ (λ f. c.2) (λ f. behind-bad _ _)))))))
            (omega arith);
      })
      (λ e. record { objects = 0; half = omega arith; takes = takes_less (2 + 0) _ _ (takes-span src 0 2 _ _ _ tt (behind-bad 0 _)) (omega arith) })

  chunks_spent : (k chunk : ℕ) → Spent (map_end h - chunk) (ask_chunks h src k chunk)
  unfolding ask_chunks
  chunks_spent zero chunk = record { objects = 0; half = omega arith; takes = takes-over _ _ }
  chunks_spent (suc k) chunk =
      in_both (Spent (map_end h - chunk)) (leb (chunk + 4) (map_end h))
      (λ e. sized_spent chunk (chunk_size src chunk) _ (leb-true (chunk + 4) (map_end h) e) (chunks_spent k (chunk + chunk_size src chunk + 2)))
      (λ e. record { objects = 0; half = omega arith; takes = takes-over _ _ })

-- both sections once, the map twice, and for every two bytes of the map the source once: for every header and source
pub bytes_bound : (h : FlatHeader) (src : List ℕ)
    → bytes_at_most (rules h src) ≤ (locator_of h 0).size + (locator_of h 1).size + 2 * map_size h + map_size h / 2 * h.length
unfolding rules map_end
bytes_bound h src =
    let s = chunks_spent h src (map_size h) (map_start h) in
    let room : map_start h + map_size h - map_start h ≡ map_size h = omega arith in
    let objects : s.objects ≤ map_size h / 2 = omega (arith, s.half) in
    let a = section-takes src HeaderVars vars (locator_of h 0).offset (locator_of h 0).size _ _
    (section-takes src Classes classes (locator_of h 1).offset (locator_of h 1).size _ _ s.takes) in
    let b : s.objects * h.length ≤ map_size h / 2 * h.length = mul-le-mul_right h.length objects in
    omega (arith, a.count)
