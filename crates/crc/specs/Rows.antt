-- The table of the fast path: eight rows of 256, by their rule.
use Rattle.std.specs.Prelude.{◌≡◌, List, [], ℕ, zero, suc, ◌<◌, get_or}
use Rattle.crc.specs.Crc.{steps, crc_byte}

-- row 0 is T; an entry of row k + 1 is the entry of row k after one more zero byte
unfoldable pub row_of : ℕ → ℕ → ℕ
row_of zero i = steps 8 i
row_of (suc k) i = crc_byte (row_of k i) 0

-- a table that holds the rule at each of its 2,048 entries
pub record Table (rows : List (List ℕ)) : Type 0 where
  pub rule : (k i : ℕ) → k < 8 → i < 256 → get_or (get_or rows k []) i 0 ≡ row_of k i

-- and its first row alone
pub record FirstRow (row : List ℕ) : Type 0 where
  pub rule : (i : ℕ) → i < 256 → get_or row i 0 ≡ row_of 0 i
