-- The location of a cursor stays below 2^63, step by step.
use Prim.Native.Nat.{ℕ, zero, suc, ◌<◌, ◌^◌}
use mathlib.Core.List.{List}
use native.Mathlib.Omega.{arith}
use Rattle.streaming.specs.declared.FlatHeader.{FlatHeader}
use Rattle.streaming.proofs.Choose.{in_both}
use Rattle.rules.specs.Entry.{Entry, leads, refused}
use Rattle.survey.proofs.Onward.{NearEntry, near-handle}
use Rattle.oneshot.specs.declared.steps.Cursor.{Cursor}
use Rattle.oneshot.specs.Cursor.{first_cursor, opened_of, in_hand, next_entry, visit_of, step_of, cursor_at}

module _ (src : List ℕ) where
  pub hand_near : (c : Cursor) → c.last.location < 2 ^ 63 → (in_hand src c).last.location < 2 ^ 63
  unfolding in_hand opened_of
  hand_near c k =
      in_both (λ (d : Cursor). d.last.location < 2 ^ 63) _ (λ t. in_both (λ (d : Cursor). d.last.location < 2 ^ 63) _ (λ u. omega arith) (λ u. k)) (λ t. k)

  visit_near : (c : Cursor) (e : Entry) → c.last.location < 2 ^ 63 → NearEntry e → (visit_of src c e).next.last.location < 2 ^ 63
  unfolding visit_of
  visit_near c (leads bytes handle location) k b = b
  visit_near c (refused bytes) k b = k

  pub near : (h : FlatHeader) (i : ℕ) → (cursor_at src (first_cursor h) i).last.location < 2 ^ 63
  unfolding step_of
  near h zero = omega arith
  near h (suc i) =
      let c = in_hand src (cursor_at src (first_cursor h) i) in
      let k : c.last.location < 2 ^ 63 = hand_near (cursor_at src (first_cursor h) i) (near h i) in
      visit_near c (next_entry src c) k (near-handle c.last.handle c.last.location _ _ k)
