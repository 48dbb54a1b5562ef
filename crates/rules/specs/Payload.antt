-- The payload of a walk, held against the sizes of what it commits.
use Rattle.std.specs.Prelude.{ℕ, zero, suc, ◌+◌, List, [], ◌∷◌}
use Rattle.streaming.specs.Record.{Record, section, object, committed_in}
use Rattle.account.specs.Account.{Account, ask, over, payload_byte}

-- the size of what was committed
abbrev pub size_of : Record → ℕ
size_of (section r) = r.size
size_of (object r) = r.size

unfoldable pub sizes_of : List Record → ℕ
sizes_of [] = 0
sizes_of (r ∷ rs) = size_of r + sizes_of rs

-- how many of the first n bytes are payload
unfoldable pub payload_within : ℕ → Account → ℕ
payload_within zero a = 0
payload_within (suc n) (ask at left says rest) = payload_byte says + payload_within n rest
payload_within (suc n) (over q) = 0

-- and how many of them came behind the last commit: the payload of the unit that is open or failed, of which so much was taken before
abbrev pub kept_behind : List Record → ℕ → ℕ
kept_behind [] taken = taken
kept_behind (r ∷ rs) taken = 0

unfoldable pub payload_in_hand : (taken n : ℕ) → Account → ℕ
payload_in_hand taken zero a = taken
payload_in_hand taken (suc n) (ask at left says rest) = payload_in_hand (kept_behind (committed_in says) (taken + payload_byte says)) n rest
payload_in_hand taken (suc n) (over q) = taken
