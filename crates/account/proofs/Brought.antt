-- The pieces of a demand bring no more than its bytes, the piece at fault among them, and what is brought behind its turn.
use Rattle.std.specs.Prelude.{Ok, Err}
use Prim.Native.Nat.{ℕ, zero, suc, ◌+◌, ◌≤◌}
use mathlib.Core.List.{List, [], ◌∷◌}
use native.Mathlib.Omega.{arith}
use lib.ListN.{length}
use Rattle.streaming.specs.declared.Fault.{Fault}
use Rattle.streaming.specs.Answers.{Answer}
use Rattle.streaming.proofs.Choose.{in_both}
use Rattle.account.specs.Account.{Account, framing, brought_by, bytes_at_most}
use Rattle.account.specs.Asking.{Turn, says_before, ask_byte, span, one_by_one, spell}
use Rattle.account.specs.Tidy.{Quiet}

quiet_one : (left : ℕ) (s : Answer) → Quiet s → brought_by left s ≤ 1
quiet_one left (Ok s) q = omega arith
quiet_one left (Err e) q = absurd q

last_one : (s : Answer) → brought_by 1 s ≤ 1
last_one (Ok s) = omega arith
last_one (Err e) = omega arith

-- a byte of a demand brings itself: it is quiet, or the last
before_one : (n : ℕ) (plain : Answer) (t : Turn) → Quiet plain → brought_by (suc n) (says_before n plain t) ≤ 1
before_one zero plain t q = last_one (says_before zero plain t)
before_one (suc n) plain t q = quiet_one (suc (suc n)) plain q

module _ (src : List ℕ) where
  brought_byte : (at left : ℕ) (s : Answer) (rest : Account) (m : ℕ) → brought_by left s + bytes_at_most rest ≤ m → bytes_at_most (ask_byte src at left s rest) ≤ m
  unfolding bytes_at_most
  brought_byte at left s rest m h = in_both (λ (a : Account). bytes_at_most a ≤ m) _ (λ e. h) (λ e. omega arith)

  pub brought_span : (at n : ℕ) (plain : Answer) (t : Turn) → Quiet plain → bytes_at_most (span src at n plain t) ≤ n + bytes_at_most t.rest
  unfolding span
  brought_span at zero plain t q = omega arith
  brought_span at (suc n) plain t q = brought_byte at _ _ _ _ (omega (arith, before_one n plain t q, brought_span (suc at) n plain t q))

  pub brought_one_by_one : (at n : ℕ) (t : Turn) → bytes_at_most (one_by_one src at n t) ≤ n + bytes_at_most t.rest
  unfolding one_by_one
  brought_one_by_one at zero t = omega arith
  brought_one_by_one at (suc n) t = brought_byte at _ _ _ _ (omega (arith, last_one (says_before n framing t), brought_one_by_one (suc at) n t))

  pub brought_spell : (at : ℕ) (ws : List ℕ) (f : Fault) (t : Turn) → bytes_at_most (spell src at ws f t) ≤ length ws + bytes_at_most t.rest
  unfolding spell bytes_at_most
  brought_spell at [] f t = omega arith
  brought_spell at (w ∷ ws) f t =
      in_both (λ (a : Account). bytes_at_most a ≤ suc (length ws) + bytes_at_most t.rest) _
      (λ e. brought_byte at _ _ _ _ (omega (arith, before_one (length ws) framing t tt, brought_spell (suc at) ws f t)))
      (λ e. brought_byte at _ _ _ _ (omega arith))
