-- Entering an object from its entry, and leaving it for the next entry or chunk, keep fitness.
use Prim.Native.Nat.{ℕ, ◌+◌, ◌-◌, ◌%◌, ◌^◌, ◌≤◌, ◌<◌}
use mathlib.Core.Bool.{true}
use mathlib.Core.Path.{◌≡◌}
use native.Mathlib.Omega.{arith}
use lib.Dec.{eqb}
use borrow.Author.Tests.{eqb-false}
use Rattle.streaming.specs.Choose.{when◌then◌else◌}
use Rattle.streaming.specs.State.{in_unit, with_object}
use Rattle.streaming.specs.declared.FlatHeader.{FlatHeader}
use Rattle.streaming.specs.declared.MapCursor.{MapCursor}
use Rattle.streaming.specs.declared.FlatWalker.{FlatWalker}
use Rattle.streaming.specs.declared.Stage.TheVariants as stage
use Rattle.streaming.specs.declared.Fed.{Fed}
use Rattle.streaming.proofs.Choose.{in_both}
use Rattle.rules.specs.Bytes.{seed}
use Rattle.rules.specs.Header.{map_start}
use Rattle.rules.specs.Object.{may_start}
use Rattle.chunk.specs.Fit.{in_chunk}
use Rattle.chunk.proofs.Fitness.{in_chunk_shows}
use Rattle.entry.specs.Fit.{fit_entry, at_byte}
use Rattle.object.specs.Object.{enter_object, leave_object}
use Rattle.object.specs.Fit.{behind_entry, object_done, object_consistent, size_in_words, fit_object}
use Rattle.flat.proofs.Keeping.{Keeps, Taken, keeps_failing, keeps_at, made}
use Rattle.flat.proofs.KeepingChunk.{keeps_enter_chunk}

-- an entry of a chunk is whole, and led to a location
pub record Led (h : FlatHeader) (m : MapCursor) (location : ℕ) : Type 0 where
  pub chunk : in_chunk h m ≡ true
  pub low : m.chunk + 2 < m.at
  pub high : m.at ≤ m.chunk + m.len
  pub field : m.field ≡ 0
  pub shift : m.shift ≡ 0
  pub mc : m.mc ≡ 0
  pub located : location ≡ m.loc
  pub near : location ≤ 2 ^ 63 - 1

module _ (s : FlatWalker) (location : ℕ) (taken : Taken s) (led : Led s.header s.map location) where
  entered : may_start s.header location ≡ true → fit_object (with_object (in_unit s stage.Object 0 0 seed s.field) s.head location 0 0) ≡ true
  unfolding fit_object object_consistent behind_entry object_done size_in_words when◌then◌else◌
  entered e = search made

  pub keeps_enter_object : Keeps (enter_object s location).state
  unfolding enter_object
  keeps_enter_object =
      in_both (λ (r : Fed). Keeps r.state) (may_start s.header location)
      (λ e. keeps_at (with_object (in_unit s stage.Object 0 0 seed s.field) s.head location 0 0) taken (entered e))
      (λ e. keeps_failing s _)

  next_entry_lem : (s.map.at ≡ s.map.chunk + s.map.len → ⊥) → fit_entry (in_unit s stage.Entry s.done s.size s.crc s.field) ≡ true
  unfolding fit_entry at_byte
  next_entry_lem other =
      let chunk = led.chunk in
      let low : s.map.chunk + 2 ≤ s.map.at = omega arith in
      let high : s.map.at < s.map.chunk + s.map.len = omega arith in
      let near : s.map.loc ≤ 2 ^ 63 - 1 = omega arith in
      let field : s.map.field ≤ 1 = omega arith in
      let shift : s.map.shift ≤ 63 = omega arith in
      let sevens : s.map.shift % 7 ≡ 0 = rw led.shift in
      search made

  pub keeps_leave_object : Keeps (leave_object s)
  unfolding leave_object
  keeps_leave_object =
      let low : map_start s.header ≤ s.map.chunk = (in_chunk_shows s.header s.map led.chunk).low in
      in_both Keeps (eqb s.map.at (s.map.chunk + s.map.len))
      (λ e. keeps_enter_chunk s (s.map.at + 2) taken (omega arith))
      (λ e. keeps_at (in_unit s stage.Entry s.done s.size s.crc s.field) taken (next_entry_lem (eqb-false _ _ e)))
