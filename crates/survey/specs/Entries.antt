-- An entry of the map as the code reads it from the bytes of its chunk.
use Rattle.std.specs.Prelude.{ℕ, ◌+◌, ◌*◌, ◌%◌, List, [], ◌∷◌, length, Option, Some, None, Result, Ok, Err}
use Rattle.std.proofs.Math.Option as rules
use Rattle.rules.specs.Entry.{Entry, leads, refused}
use Rattle.survey.specs.declared.entries.Leads.{Leads}

-- the rules' entry: where it leads, or how many bytes it has up to the one that is refused
abbrev pub entry_read : Entry → Result Leads ℕ
entry_read (leads bytes handle location) = Ok (record { bytes = bytes; to = record { handle = handle; location = location } })
entry_read (refused bytes) = Err bytes

-- how many bytes a delta has, if it is whole
abbrev pub groups_read : rules.Option (List ℕ) → Option ℕ
groups_read rules.none = None
groups_read (rules.some bytes) = Some (length bytes)

-- where a location delta leads
abbrev pub moved_to : rules.Option ℕ → Option ℕ
moved_to rules.none = None
moved_to (rules.some location) = Some location

-- the number of some groups, the lowest first, with a last one behind them
unfoldable pub groups_then : List ℕ → (last : ℕ) → ℕ
groups_then [] last = last
groups_then (b ∷ bs) last = b % 0x80 + 0x80 * groups_then bs last
