-- How many bytes the pieces of a walk bring at most, a piece at fault among them: a demand's own, and those behind its turn.
use Prim.Native.Nat.{ℕ, ◌+◌, ◌≤◌}
use mathlib.Core.List.{List}
use native.Mathlib.Omega.{arith}
use lib.ListN.{length}
use Rattle.streaming.specs.declared.Fault.{Fault}
use Rattle.streaming.specs.Answers.{Asked, Answer}
use Rattle.account.specs.Account.{Account, over, bytes_at_most}
use Rattle.account.specs.Asking.{Turn, go, bad, span, one_by_one, spell}
use Rattle.account.specs.Tidy.{Quiet}
use Rattle.account.proofs.Brought.{brought_span, brought_one_by_one, brought_spell}

-- an account that brings at most n bytes, and a turn with at most n bytes behind it
pub record Takes (n : ℕ) (a : Account) : Type 0 where
  pub count : bytes_at_most a ≤ n

pub record Behind (n : ℕ) (t : Turn) : Type 0 where
  pub count : bytes_at_most t.rest ≤ n

pub takes-over : (n : ℕ) (q : Asked) → Takes n (over q)
unfolding bytes_at_most
takes-over n q = record { count = omega arith }

pub takes_less : (n m : ℕ) (a : Account) → Takes n a → n ≤ m → Takes m a
takes_less n m a k l = record { count = omega (arith, k.count) }

pub behind_go : (n : ℕ) (s : Answer) (a : Account) → Takes n a → Behind n (go s a)
behind_go n s a k = record { count = k.count }

pub behind-bad : (n : ℕ) (f : Fault) → Behind n (bad f)
unfolding bytes_at_most
behind-bad n f = record { count = omega arith }

pub behind_less : (n m : ℕ) (t : Turn) → Behind n t → n ≤ m → Behind m t
behind_less n m t k l = record { count = omega (arith, k.count) }

module _ (src : List ℕ) where
  pub takes-span : (m n at : ℕ) (plain : Answer) (t : Turn) → Quiet plain → Behind m t → Takes (n + m) (span src at n plain t)
  takes-span m n at plain t q k = record { count = omega (arith, brought_span src at n plain t q, k.count) }

  pub takes-one_by_one : (m n at : ℕ) (t : Turn) → Behind m t → Takes (n + m) (one_by_one src at n t)
  takes-one_by_one m n at t k = record { count = omega (arith, brought_one_by_one src at n t, k.count) }

  pub takes-spell : (m at : ℕ) (ws : List ℕ) (f : Fault) (t : Turn) → Behind m t → Takes (length ws + m) (spell src at ws f t)
  takes-spell m at ws f t k = record { count = omega (arith, brought_spell src at ws f t, k.count) }
