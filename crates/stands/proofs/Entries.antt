-- The machine goes through the entries of a chunk as the rules say, and through the object of each.
use Rattle.std.specs.Prelude.{None}
use Prim.Native.Nat.{ℕ, zero, suc, ◌+◌, ◌-◌, ◌^◌, min, ◌≤◌, ◌<◌}
use mathlib.Core.Bool.{Bool, true, false, ◌&&◌, not, and_comm}
use mathlib.Core.List.{List}
use mathlib.Core.Option.{Option, none, some}
use mathlib.Core.Path.{◌≡◌, refl}
use native.Mathlib.Omega.{arith}
use lib.ListN.{length}
use lib.Dec.{ltb, eqb}
use borrow.Author.Tests.{ltb-true, ltb-false, eqb-true, eqb-false, eq-eqb, ne_eqb}
use Rattle.streaming.specs.Choose.{when◌then◌else◌}
use Rattle.streaming.specs.State.{in_unit, with_map, at_entry, stepped, fell}
use Rattle.streaming.specs.declared.Step.TheVariants as step
use Rattle.streaming.specs.declared.Fault.TheVariants as fault
use Rattle.streaming.specs.declared.Stage.TheVariants as stage
use Rattle.streaming.specs.declared.FlatWalker.{FlatWalker}
use Rattle.streaming.proofs.Choose.{in_both, and_left}
use Rattle.account.specs.Account.{Account, framing}
use Rattle.account.specs.Asking.{go, one_by_one}
use Rattle.account.specs.Statement.{part}
use Rattle.account.proofs.Demands.{one_add}
use Rattle.account.proofs.Parts.{length_part, part-drop}
use Rattle.account.proofs.Walks.{On, lands_go}
use Rattle.rules.specs.Entry.{delta_in, handle_delta, magnitude, is_back, location_delta, moved}
use Rattle.rules.specs.Entry.{Entry, entry_at, with_location, with_handle, followed, entries_from}
use Rattle.rules.specs.Map.{ask_entries}
use Rattle.rules.proofs.Entry.{Short, delta_short, handle-more, magnitude-more, Near, moved-near, entries_nil, entries_cons}
use Rattle.chunk.specs.Chunk.{enter_chunk}
use Rattle.object.specs.Object.{leave_object}
use Rattle.entry.specs.Entry.{moved_by, settle_location, settle_handle}
use Rattle.stands.proofs.Bare.{bare}
use Rattle.stands.proofs.Landing.{land_fell}
use Rattle.stands.proofs.ObjectDemands.{in_object}
use Rattle.stands.proofs.Objects.{object_lands}
use Rattle.stands.proofs.Deltas.{Begun, delta_begun, handle-last, magnitude-last, moved_alike}

-- ---- laws

-- a delta lies in the bytes that it is read from
part-short : (src : List ℕ) (at n : ℕ) → at + n ≤ length src → Short n (delta_in (part src at n))
part-short src at n h = rw (length_part src at n (omega arith)) at (delta_short (part src at n))

-- of n bytes up to a place, the g-th is not the last if there are more
room_alike : (at g n end : ℕ) → at + n ≡ end → 1 ≤ g → g ≤ n → not (eqb (at + g - 1 + 1) end) ≡ ltb g n
room_alike at g n end e h k = split (ltb g n) refl
  where
    split : (b : Bool) → ltb g n ≡ b → not (eqb (at + g - 1 + 1) end) ≡ ltb g n
    split true l = rw (l, ne_eqb (at + g - 1 + 1) end (λ q. omega (arith, ltb-true g n l)))
    split false l = rw (l, eq-eqb (at + g - 1 + 1) end (omega (arith, ltb-false g n l)))

-- behind an object: the next chunk, or the next entry
leave_on : (src : List ℕ) (s : FlatWalker) (a : Account)
    → (s.map.at ≡ s.map.chunk + s.map.len → On bare src (enter_chunk s (s.map.at + 2)) a)
    → ((s.map.at ≡ s.map.chunk + s.map.len → ⊥) → On bare src (in_unit s stage.Entry s.done s.size s.crc s.field) a)
    → On bare src (leave_object s) a
unfolding leave_object
leave_on src s a f g =
    in_both (λ (st : FlatWalker). On bare src st a) (eqb s.map.at (s.map.chunk + s.map.len)) (λ e. f (eqb-true _ _ e)) (λ e. g (eqb-false _ _ e))

-- ---- one entry

-- what the map needs of a state
pub record Ready (s : FlatWalker) : Type 0 where
  pub sound : s.failure ≡ None
  pub field : length s.field ≡ 4
  pub head : length s.head ≡ 16

module _ (src : List ℕ) (chunk len : ℕ) (inside : chunk + len ≤ length src) (next : Account) where
  -- n bytes before the chunk's end
  module _ (s : FlatWalker) (walks : s.stage ≡ stage.Entry) (ready : Ready s) (at handle loc n : ℕ)
      (end : at + n ≡ chunk + len) (near : loc < 2 ^ 63) (more : (bytes handle location : ℕ) → List Entry) where
    abbrev begin : FlatWalker
    begin = with_map s (at_entry chunk len at handle loc 0 0 0)

    -- the entry, and what follows it
    abbrev Entered : Entry → Type 0
    Entered e = On bare src begin (ask_entries s.header src (followed e more) at next)

    module _ (behind : (m handle location : ℕ) → 1 ≤ m → m ≤ n → location < 2 ^ 63
        → (done size crc ms_len words : ℕ) (field head : List ℕ) → length field ≡ 4 → length head ≡ 16
        → On bare src (leave_object (in_object (with_map s (at_entry chunk len (at + m) handle location 0 0 0)) location done size crc field head ms_len words))
        (ask_entries s.header src (more m handle location) (at + m) next)) where
      -- the location delta, behind m bytes of handle delta
      module _ (m handle' : ℕ) (low : 1 ≤ m) (high : m < n)
          (first : (a : Account) → On bare src (with_map s (at_entry chunk len (at + m) handle' loc 0 0 1)) a
          → On bare src begin (one_by_one src at m (go framing a))) where
        abbrev Located : Option (List ℕ) → Type 0
        Located = Begun src s chunk len handle' loc 1 magnitude (at + m) (n - m)

        moved_on : (groups : List ℕ) → Located (some groups) → 1 ≤ length groups → length groups ≤ n - m
            → (o : Option ℕ) → moved_by (is_back groups) loc (magnitude groups) ≡ o → Near o → Entered (entry_at (m + length groups) handle' o)
        unfolding entry_at followed ask_entries settle_location when◌then◌else◌
        moved_on groups told a b none e f =
            let x : at + (m + length groups) - 1 ≡ at + m + length groups - 1 = omega arith in
            rw (one_add src at m (length groups) _ a, x)
            (first _ (told _ λ mc shift. rw e (land_fell src (with_map s (at_entry chunk len (at + m + length groups - 1) handle' loc mc shift 1)) _)))
        moved_on groups told a b (some location) e f =
            let x : at + m + length groups - 1 + 1 ≡ at + (m + length groups) = omega arith in
            rw (one_add src at m (length groups) _ a)
            (first _ (told _ λ mc shift. rw (e, x)
            (object_lands src (with_map s (at_entry chunk len (at + (m + length groups)) handle' location 0 0 0)) location
            ready.sound ready.field ready.head _ (behind (m + length groups) handle' location (omega arith) (omega arith) f))))

        location_on : (bytes : List ℕ) → length bytes ≡ n - m → (o : Option (List ℕ)) → Short (n - m) o → Located o
            → Entered (with_location m handle' loc bytes o)
        unfolding with_location location_delta followed ask_entries
        location_on bytes l none c told =
            let x : at + (m + min 10 (n - m)) - 1 ≡ at + m + min 10 (n - m) - 1 = omega arith in
            rw (l, one_add src at m (min 10 (n - m)) _ (omega arith), x) (first _ told)
        location_on bytes l (some groups) c told =
            moved_on groups told c.0 c.1 (moved loc (location_delta groups)) (moved_alike (is_back groups) loc (magnitude groups) near)
            (moved-near loc (location_delta groups) near)

      -- the handle delta is whole, g bytes long
      module _ (mc shift g v : ℕ) where
        abbrev at_last_byte : FlatWalker
        at_last_byte = with_map s (at_entry chunk len (at + g - 1) handle loc mc shift 0)

        handle_fed : 1 ≤ g → g ≤ n → settle_handle at_last_byte v
            ≡ when ltb g n && ltb (handle + v) (2 ^ 64) then stepped step.Framing (with_map s (at_entry chunk len (at + g) (handle + v) loc 0 0 1))
            else fell (fault.MapEntry (at + g - 1)) at_last_byte
        unfolding settle_handle
        handle_fed a b =
            let x : at + g - 1 + 1 ≡ at + g = omega arith in
            rw (room_alike at g n (chunk + len) end a b, x, and_comm (ltb g n) (ltb (handle + v) (2 ^ 64)))

      abbrev Handled : Option (List ℕ) → Type 0
      Handled = Begun src s chunk len handle loc 0 handle_delta at n

      handle_on : (o : Option (List ℕ)) → Short n o → Handled o → Entered (with_handle handle loc (part src at n) o)
      unfolding with_handle followed ask_entries when◌then◌else◌
      handle_on none c told = let l : length (part src at n) ≡ n = length_part src at n (omega arith) in rw l told
      handle_on (some groups) c told =
          let l : length (part src at n) ≡ n = length_part src at n (omega arith) in
          let g : ℕ = length groups in
          let v : ℕ = handle_delta groups in
          rw l (in_both Entered (ltb g n && ltb (handle + v) (2 ^ 64))
          (λ e.
          let k : g < n = ltb-true g n (and_left (ltb g n) _ e) in
          rw (part-drop src at g n (omega arith) (omega arith))
          (location_on g (handle + v) c.0 k
          (λ a o. told (go framing a) λ mc shift. rw (handle_fed mc shift g v c.0 c.1, e) (lands_go bare src o))
          (part src (at + g) (n - g)) (length_part src (at + g) (n - g) (omega arith)) _ (part-short src (at + g) (n - g) (omega arith))
          (delta_begun src s chunk len (handle + v) loc 1 walks ready.sound inside magnitude magnitude-last magnitude-more
          (at + g) (n - g) (omega arith) (omega arith))))
          λ e. told _ λ mc shift. rw (handle_fed mc shift g v c.0 c.1, e) (land_fell src (at_last_byte mc shift g v) _))

  -- ---- all of them

  -- From any entry on. The count bounds the recursion alone, and behind the chunk's last entry the next chunk goes as `next` says.
  pub entries_on_lem : (k : ℕ) (s : FlatWalker) → s.stage ≡ stage.Entry → Ready s
      → (at handle loc n : ℕ) → at + n ≡ chunk + len → 1 ≤ n → n ≤ k → loc < 2 ^ 63
      → ((crc : ℕ) (field : List ℕ) → length field ≡ 4 → On bare src (enter_chunk (in_unit s stage.Chunk 0 0 crc field) (chunk + len + 2)) next)
      → On bare src (with_map s (at_entry chunk len at handle loc 0 0 0)) (ask_entries s.header src (entries_from k handle loc (part src at n)) at next)
  unfolding enter_chunk ask_entries
  entries_on_lem zero s walks ready at handle loc n end a b near after = absurd (omega arith)
  entries_on_lem (suc k) s walks ready at handle loc n end a b near after =
      let l : length (part src at n) ≡ n = length_part src at n (omega arith) in
      rw (entries_cons k handle loc (part src at n) (omega (arith, l)))
      (handle_on s walks ready at handle loc n end near _
      (λ m handle' loc' c d near' done size crc ms_len words field head f h.
      let st : FlatWalker = in_object (with_map s (at_entry chunk len (at + m) handle' loc' 0 0 0)) loc' done size crc field head ms_len words in
      rw (part-drop src at m n d (omega arith))
      (leave_on src st _
      (λ e.
      let x : n - m ≡ 0 = omega arith in
      let y : at + m + 2 ≡ chunk + len + 2 = omega arith in
      rw (x, entries_nil k handle' loc', y) (after crc field f))
      λ e. entries_on_lem k (in_unit st stage.Entry done size crc field) refl (record { sound = ready.sound; field = f; head = h })
      (at + m) handle' loc' (n - m) (omega arith) (omega (arith, e)) (omega arith) near' after))
      (delta_in (part src at n)) (part-short src at n (omega arith))
      (delta_begun src s chunk len handle loc 0 walks ready.sound inside handle_delta handle-last handle-more at n end a))
