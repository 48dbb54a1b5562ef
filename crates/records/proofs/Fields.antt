-- The fields of a prologue, taken one by one, make the prologue of the rules. The rules and `prologue` stop at the first field that is missing; `prologue_read` looks for the handle in any case, and where a field before it is missing it is too (`cut_short`).
use mathlib.Core.Path.{◌≡◌, refl, sym, ◌∙◌, ap}
use mathlib.Core.Bool.{Bool, true, false}
use mathlib.Core.List.{List}
use mathlib.Core.Option.{none, some}
use mathlib.Core.Option as rules
use Prim.Native.Nat.{ℕ, zero, suc, ◌+◌, ◌*◌, ◌^◌, ◌<◌, ◌≤◌}
use native.Mathlib.Nat.{zero-add, add_assoc}
use native.Mathlib.Omega.{arith}
use lib.Dec.{ltb}
use lib.ListN.{length}
use borrow.Author.Tests.{ne_eqb, leb-true, leb-false, ltb-true, ltb-false}
use Rattle.std.specs.Prelude.{Option, Some, None}
use Rattle.streaming.specs.Choose.{when◌then◌else◌}
use Rattle.streaming.proofs.Choose.{in_both}
use Rattle.rules.specs.Prologue.{Prologue, bits_at, reading, reading_handle, behind_type, reading_type, prologue_of}
use Rattle.records.specs.Bits.{taken_at, number}
use Rattle.records.specs.Fields.{type_width, type_of, gap_width, head_with}
use Rattle.records.specs.Answer.{head_of}
use Rattle.records.specs.declared.Opening.{Opening}
use Rattle.records.proofs.Bits.{bits_lt, bits_join, too_many, too_few, taken, none_behind}

-- how wide the fields before the count are at most
pub width_most : (code : ℕ) → type_width code ≤ 16
unfolding type_width
width_most code = in_both (λ n. n ≤ 16) _ (λ e. omega arith) (λ e. in_both (λ n. n ≤ 16) _ (λ f. omega arith) (λ f. omega arith))

pub gap_most : (r2000 : Bool) → gap_width r2000 ≤ 36
unfolding gap_width when◌then◌else◌
gap_most true = omega arith
gap_most false = omega arith

-- where the count stands
abbrev pub at_count : (r2000 : Bool) (code : ℕ) → ℕ
at_count r2000 code = 2 + (type_width code + gap_width r2000)

module _ (bytes : List ℕ) where
  -- the handle, where its count stands at a place
  abbrev handle_at : ℕ → Option ℕ
  handle_at at = taken_at bytes (at + 4) (8 * number (taken_at bytes at 4))

  -- a reading gives x, where what is read on gives x and none does
  either : (x : Option Opening) (at n : ℕ) (go_on : (number behind : ℕ) → rules.Option Prologue)
      → (at + n ≤ 8 * length bytes → head_of (go_on (bits_at bytes at n) (at + n)) ≡ x) → (8 * length bytes < at + n → head_of none ≡ x) → head_of (reading bytes at n go_on) ≡ x
  unfolding reading
  either x at n go_on there short = in_both (λ o. head_of o ≡ x) _ (λ e. there (leb-true _ _ e)) (λ e. short (leb-false _ _ e))

  module _ (code bits : ℕ) where
    no_handle : (at : ℕ) → at + 4 < 2 ^ 64 → 8 * length bytes < at + 4 → head_of none ≡ head_with code bits (handle_at at)
    no_handle at near short = rw (← too_few bytes at 4 (omega arith) near short) (ap (head_with code bits) (too_few bytes (at + 4) 0 (omega arith) (omega arith) (omega arith)))

    -- the count, and so many bytes behind it: more than 64 bits are not taken
    counted : (at count : ℕ) → count < 16 → at + 128 < 2 ^ 64
        → head_of (when ltb 8 count then none else reading bytes at (8 * count) λ handle at. some (record { type = type_of code bits; handle = handle })) ≡ head_with code bits (taken_at bytes at (8 * count))
    counted at count small near =
        in_both (λ o. head_of o ≡ head_with code bits (taken_at bytes at (8 * count))) (ltb 8 count)
        (λ e. let many = ltb-true 8 count e in ap (head_with code bits) (too_many bytes at (8 * count) (omega arith)))
        (λ e. let few = ltb-false 8 count e in either _ at (8 * count) _
        (λ there. ap (head_with code bits) (taken bytes at (8 * count) (omega arith) (omega arith) there))
        (λ short. ap (head_with code bits) (too_few bytes at (8 * count) (omega arith) (omega arith) short)))

    handle_read : (at : ℕ) → at + 160 < 2 ^ 64 → head_of (reading_handle bytes (type_of code bits) at) ≡ head_with code bits (handle_at (at + 4))
    unfolding reading_handle
    handle_read at near =
        either _ at 4 _
        (λ _. either _ (at + 4) 4 _
        (λ there. rw (← taken bytes (at + 4) 4 (omega arith) (omega arith) there) (counted (at + 4 + 4) (bits_at bytes (at + 4) 4) (bits_lt bytes (at + 4) 4) (omega arith)))
        (no_handle (at + 4) (omega arith)))
        (λ short. no_handle (at + 4) (omega arith) (omega arith))

    behind_read : (r2000 : Bool) (at : ℕ) → at + 200 < 2 ^ 64 → head_of (behind_type bytes r2000 (type_of code bits) at) ≡ head_with code bits (handle_at (at + gap_width r2000))
    unfolding behind_type gap_width when◌then◌else◌
    behind_read true at near =
        either _ at 32 _
        (λ _. handle_read (at + 32) (omega arith) ∙ ap (λ (p : ℕ). head_with code bits (handle_at p)) (add_assoc at 32 4))
        (λ short. no_handle (at + 36) (omega arith) (omega arith))
    behind_read false at near = handle_read at (omega arith)

  -- a type of two bytes stands with the low one first
  two_bytes : (at : ℕ) → bits_at bytes at 8 + 256 * bits_at bytes (at + 8) 8 ≡ type_of 0 (bits_at bytes at 16)
  unfolding type_of when◌then◌else◌
  two_bytes at = rw (bits_join bytes at 8 8) (omega (arith, bits_lt bytes at 8, bits_lt bytes (at + 8) 8))

  one_byte : (at : ℕ) → bits_at bytes at 8 ≡ type_of 1 (bits_at bytes at 8)
  unfolding type_of when◌then◌else◌
  one_byte at = omega (arith, bits_lt bytes at 8)

  module _ (r2000 : Bool) where
    -- the type, and the handle behind it and the gap
    abbrev TypeRead : (code at : ℕ) → rules.Option Prologue → Type 0
    TypeRead code at o = head_of o ≡ head_with code (number (taken_at bytes at (type_width code))) (handle_at (at + (type_width code + gap_width r2000)))

    type_there : (code at : ℕ) → at + 220 < 2 ^ 64 → at + type_width code ≤ 8 * length bytes
        → TypeRead code at (behind_type bytes r2000 (type_of code (bits_at bytes at (type_width code))) (at + type_width code))
    type_there code at near there =
        let most = width_most code in
        rw (← taken bytes at (type_width code) (omega arith) (omega arith) there, ← add_assoc at (type_width code) (gap_width r2000))
        (behind_read code (bits_at bytes at (type_width code)) r2000 (at + type_width code) (omega arith))

    type_missing : (code at : ℕ) → at + 220 < 2 ^ 64 → 8 * length bytes < at + type_width code → TypeRead code at none
    type_missing code at near short = no_handle code _ (at + (type_width code + gap_width r2000)) (omega (arith, width_most code, gap_most r2000)) (omega arith)

    type_16 : (at : ℕ) → at + 220 < 2 ^ 64 → TypeRead 0 at (reading_type bytes 0 at (behind_type bytes r2000))
    unfolding reading_type type_width when◌then◌else◌
    type_16 at near =
        either _ at 8 _
        (λ _. either _ (at + 8) 8 _ (λ there. rw (two_bytes at, add_assoc at 8 8) (type_there 0 at near (omega arith))) (λ short. type_missing 0 at near (omega arith)))
        (λ short. type_missing 0 at near (omega arith))

    type_8 : (at : ℕ) → at + 220 < 2 ^ 64 → TypeRead 1 at (reading_type bytes 1 at (behind_type bytes r2000))
    unfolding reading_type type_width when◌then◌else◌
    type_8 at near = either _ at 8 _ (λ there. rw (one_byte at) (type_there 1 at near there)) (type_missing 1 at near)

    -- a code above 1 has no bits behind it
    no_width : (k : ℕ) → type_width (suc (suc k)) ≡ 0
    unfolding type_width when◌then◌else◌
    no_width k = rw (ne_eqb (suc (suc k)) 0 (λ e. omega arith), ne_eqb (suc (suc k)) 1 (λ e. omega arith))

    no_type : (k at bits : ℕ) → at + 200 < 2 ^ 64 → head_of (reading_type bytes (suc (suc k)) at (behind_type bytes r2000)) ≡ head_with (suc (suc k)) bits (handle_at (at + gap_width r2000))
    unfolding reading_type type_of when◌then◌else◌
    no_type zero at bits near = behind_read 2 bits r2000 at near
    no_type (suc k) at bits near =
        let no = ne_eqb (suc (suc (suc k))) in
        rw (no 0 (λ e. omega arith), no 1 (λ e. omega arith), no 2 (λ e. omega arith)) (rw (no 0 (λ e. omega arith), no 1 (λ e. omega arith), no 2 (λ e. omega arith)) at (behind_read (suc (suc (suc k))) bits r2000 at near))

    type_read : (code at : ℕ) → at + 220 < 2 ^ 64 → TypeRead code at (reading_type bytes code at (behind_type bytes r2000))
    type_read zero at near = type_16 at near
    type_read (suc zero) at near = type_8 at near
    type_read (suc (suc k)) at near = rw (no_width k, zero-add (gap_width r2000)) (no_type k at _ (omega arith))

  abbrev code : ℕ
  code = number (taken_at bytes 0 2)

  -- the fields of a prologue, each at its place
  pub prologue_read : (r2000 : Bool) → head_with code (number (taken_at bytes 2 (type_width code))) (handle_at (2 + (type_width code + gap_width r2000))) ≡ head_of (prologue_of r2000 bytes)
  unfolding prologue_of
  prologue_read r2000 =
      sym (either _ 0 2 _
      (λ there. rw (← taken bytes 0 2 (omega arith) (omega arith) there) (type_read r2000 (bits_at bytes 0 2) 2 (omega arith)))
      (λ short. no_handle code _ (2 + (type_width code + gap_width r2000)) (omega (arith, width_most code, gap_most r2000)) (omega arith)))

  module _ (r2000 : Bool) where
    -- where bits before the handle are not there, there is no prologue
    cut_short : (k at n : ℕ) → k ≡ number (taken_at bytes 0 2) → n ≤ 64 → at + n ≤ at_count r2000 k + 4 → None ≡ taken_at bytes at n → None ≡ head_of (prologue_of r2000 bytes)
    cut_short k at n is few before e =
        let gone : (m : ℕ) → None ≡ taken_at bytes (at_count r2000 k + 4) m = λ m. none_behind bytes at n (at_count r2000 k + 4) m few before (omega (arith, width_most k, gap_most r2000)) e in
        rw (← is, ← gone _) at (prologue_read r2000)

    pub no_code : None ≡ taken_at bytes 0 2 → None ≡ head_of (prologue_of r2000 bytes)
    no_code e = cut_short _ 0 2 refl (omega arith) (omega arith) e

    pub no_bits : {k : ℕ} → Some k ≡ taken_at bytes 0 2 → None ≡ taken_at bytes 2 (type_width k) → None ≡ head_of (prologue_of r2000 bytes)
    no_bits {k = k} c e = cut_short k 2 (type_width k) (ap number c) (omega (arith, width_most k)) (omega arith) e

    pub no_count : {k : ℕ} → Some k ≡ taken_at bytes 0 2 → None ≡ taken_at bytes (at_count r2000 k) 4 → None ≡ head_of (prologue_of r2000 bytes)
    no_count {k = k} c e = cut_short k (at_count r2000 k) 4 (ap number c) (omega arith) (omega arith) e

    pub handle_missing : {k count : ℕ} → Some k ≡ taken_at bytes 0 2 → Some count ≡ taken_at bytes (at_count r2000 k) 4 → None ≡ taken_at bytes (at_count r2000 k + 4) (8 * count) → None ≡ head_of (prologue_of r2000 bytes)
    handle_missing c n h = rw (← c, ← n, ← h) at (prologue_read r2000)

    -- where all are there, they make the prologue
    pub all_read : {k bits count handle : ℕ} → Some k ≡ taken_at bytes 0 2 → Some bits ≡ taken_at bytes 2 (type_width k) → Some count ≡ taken_at bytes (at_count r2000 k) 4
        → Some handle ≡ taken_at bytes (at_count r2000 k + 4) (8 * count) → Some (record { type_code = type_of k bits; handle = handle }) ≡ head_of (prologue_of r2000 bytes)
    all_read c b n h = rw (← c, ← b, ← n, ← h) at (prologue_read r2000)
