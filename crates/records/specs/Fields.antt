-- The fields of a prologue: how many bits each has, and what they make together where the handle is there.
use Rattle.std.specs.Prelude.{ℕ, ◌+◌, ◌*◌, ◌/◌, ◌%◌, Bool, eqb, Option, Some, None}
use Rattle.streaming.specs.Choose.{when◌then◌else◌}
use Rattle.records.specs.declared.Opening.{Opening}

-- how many bits the type has, by its code
unfoldable pub type_width : (code : ℕ) → ℕ
type_width code = when eqb code 0 then 16 else when eqb code 1 then 8 else 0

-- the type, by its code and its bits: the low byte stands first where it has two
unfoldable pub type_of : (code bits : ℕ) → ℕ
type_of code bits =
    when eqb code 0 then bits / 256 % 256 + 256 * (bits % 256)
    else when eqb code 1 then bits % 256
    else when eqb code 2 then 0
    else 256

-- how many bits stand between the type and the handle's count
unfoldable pub gap_width : (r2000 : Bool) → ℕ
gap_width r2000 = when r2000 then 36 else 4

-- the answer: none where the handle is not there
abbrev pub head_with : (code bits : ℕ) (handle : Option ℕ) → Option Opening
head_with code bits None = None
head_with code bits (Some handle) = Some (record { type_code = type_of code bits; handle = handle })
