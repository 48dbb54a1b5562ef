-- Demands on a source, out of which an account is made. Each ends in a turn.
use Rattle.std.specs.Prelude.{ℕ, zero, suc, List, [], ◌∷◌, length, get_or, ltb, eqb}
use Rattle.streaming.specs.Choose.{when◌then◌else◌}
use Rattle.streaming.specs.declared.Fault.{Fault}
use Rattle.streaming.specs.Answers.{Answer}
use Rattle.account.specs.Account.{Account, ask, over, demand, framing, faulted, broken}

-- what the last byte of a demand says, and how the walk goes on behind it
pub record Turn : Type 0 where
  pub says : Answer
  pub rest : Account

abbrev pub go : Answer → Account → Turn
go says rest = record { says = says; rest = rest }

abbrev pub bad : Fault → Turn
bad f = record { says = faulted f; rest = over (broken f) }

-- with n more bytes to come a byte says `plain`, and the last one says what the turn does
abbrev pub says_before : ℕ → Answer → Turn → Answer
says_before zero plain t = t.says
says_before (suc n) plain t = plain

module _ (src : List ℕ) where
  -- a byte of a demand, if the source has it
  abbrev pub ask_byte : (at left : ℕ) → Answer → Account → Account
  ask_byte at left says rest = when ltb at (length src) then ask at left says rest else over (demand at left)

  -- a demand of n bytes
  unfoldable pub span : (at n : ℕ) → Answer → Turn → Account
  span at zero plain t = t.rest
  span at (suc n) plain t = ask_byte at (suc n) (says_before n plain t) (span (suc at) n plain t)

  -- a demand of n bytes that all say the same; for n = 0 there is none
  abbrev pub passing : (at n : ℕ) → Answer → Account → Account
  passing at n plain rest = span at n plain (go plain rest)

  -- n demands of one byte each
  unfoldable pub one_by_one : (at n : ℕ) → Turn → Account
  one_by_one at zero t = t.rest
  one_by_one at (suc n) t = ask_byte at 1 (says_before n framing t) (one_by_one (suc at) n t)

  -- a demand whose bytes are given: the first other byte is a fault
  unfoldable pub spell : (at : ℕ) → List ℕ → Fault → Turn → Account
  spell at [] f t = t.rest
  spell at (w ∷ ws) f t =
      when eqb (get_or src at 0) w then ask_byte at (suc (length ws)) (says_before (length ws) framing t) (spell (suc at) ws f t)
      else ask_byte at (suc (length ws)) (faulted f) (over (broken f))
