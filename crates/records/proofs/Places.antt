-- Where the fields stand, as `prologue` goes on.
use mathlib.Core.Path.{◌≡◌}
use mathlib.Core.Bool.{Bool}
use Prim.Native.Nat.{ℕ, ◌+◌}
use native.Mathlib.Omega.{arith}
use Rattle.records.specs.Bits.{further}
use Rattle.records.specs.Fields.{type_width, gap_width}
use Rattle.records.proofs.Bits.{further_near, taken_lt}
use Rattle.records.proofs.Fields.{width_most, gap_most, no_code, no_bits, no_count, handle_missing, all_read}

pub to_type : further 0 2 ≡ 2
to_type = further_near 0 2 (omega arith)

pub to_count : (r2000 : Bool) (code : ℕ) → further 2 (type_width code + gap_width r2000) ≡ 2 + (type_width code + gap_width r2000)
to_count r2000 code = further_near 2 _ (omega (arith, width_most code, gap_most r2000))

pub to_handle : (r2000 : Bool) (code : ℕ)
    → further (2 + (type_width code + gap_width r2000)) 4 ≡ 2 + (type_width code + gap_width r2000) + 4
to_handle r2000 code = further_near (2 + (type_width code + gap_width r2000)) 4 (omega (arith, width_most code, gap_most r2000))

-- what the search needs for `prologue`
pub ruleset going_on = (to_type, to_count, to_handle, width_most, gap_most, taken_lt, no_code, no_bits, no_count, handle_missing, all_read)
