-- What a well-formed operation has behind its letter.
use Rattle.std.proofs.Common.{◌≡◌, ℕ, ◌+◌, ◌≤◌, List, length, get_or, arith}
use Rattle.std.proofs.lemmas.Grind.{common_steps}
use Rattle.std.specs.Prelude.{IsSome}
use Rattle.octets.specs.Octets.{counted_size}
use Rattle.replay.specs.Form.{is_bare, state_size, feed_size, size_of}
use Rattle.replay.specs.Parse.{number_at}

module _ (s : List ℕ) (formed : IsSome (size_of s)) where
  pub has_letter : 1 ≤ length s
  unfolding size_of
  has_letter = grind (arith, common_steps)

  pub has_header : get_or s 0 0 ≡ 72 → 70 ≤ length s
  unfolding size_of is_bare
  has_header e = grind (arith, common_steps)

  pub has_state : get_or s 0 0 ≡ 87 → 157 ≤ length s
  unfolding size_of is_bare state_size
  has_state e = grind (arith, common_steps)

  pub has_piece : get_or s 0 0 ≡ 70 → 13 + number_at s 9 4 ≤ length s
  unfolding size_of is_bare feed_size counted_size
  has_piece e = grind (arith, common_steps)

pub ruleset behind = (has_letter, has_header, has_state, has_piece)
