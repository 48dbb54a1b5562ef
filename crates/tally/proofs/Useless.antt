-- Useless counters break the contract of `count`: each is refuted by a history of one call or two.
use Rattle.std.specs.Prelude.{None}
use Prim.Native.Nat.{ℕ, ◌+◌, ◌-◌, ◌%◌, ◌^◌}
use mathlib.Core.List.{[], ◌∷◌}
use mathlib.Core.Path.{◌≡◌, refl, ap}
use native.Mathlib.Omega.{arith}
use Rattle.streaming.specs.declared.Fault.TheVariants as fault
use Rattle.account.specs.Account.{framing, faulted}
use Rattle.tally.specs.declared.Tally.{Tally}
use Rattle.tally.specs.History.{Heard, heard, total}
use Rattle.tally.specs.Tally.{tally_of, Continues}

-- any function from a tally and a call to a tally that meets the contract
abbrev Meets : (Tally → Heard → Tally) → Type 0
Meets f = (t : Tally) (h : Heard) → Continues t h (f t h)

-- the bytes that it has counted behind a call of n bytes, with nothing before
first-bytes : (f : Tally → Heard → Tally) → Meets f → (h : Heard) → (f (tally_of []) h).bytes ≡ (tally_of (h ∷ [])).bytes
first-bytes f meets h = ap (λ (t : Tally). t.bytes) (meets (tally_of []) h [] refl)

-- one with invented numbers, always the same
pub invented : (r : Tally) → Meets (λ t h. r) → ⊥
unfolding tally_of total
invented r meets =
    let five = first-bytes (λ t h. r) meets (heard None framing 5) in
    let six = first-bytes (λ t h. r) meets (heard None framing 6) in
    omega (arith, five, six)

-- one that leaves out the piece at fault
pub forgiving : (f : Tally → Heard → Tally) → ((t : Tally) (n : ℕ) → f t (heard None (faulted (fault.SectionSize 0)) n) ≡ t) → Meets f → ⊥
unfolding tally_of total
forgiving f leaves-out meets =
    let h = heard None (faulted (fault.SectionSize 0)) 5 in
    omega (arith, first-bytes f meets h, ap (λ (t : Tally). t.bytes) (leaves-out (tally_of []) 5))

-- one that wraps
pub wrapping : (f : Tally → Heard → Tally) → ((t : Tally) (n : ℕ) → (f t (heard None framing n)).bytes ≡ (t.bytes + n) % 2 ^ 64) → Meets f → ⊥
unfolding tally_of total
wrapping f wraps meets =
    let h = heard None framing (2 ^ 64 - 1) in
    let second = ap (λ (t : Tally). t.bytes) (meets (tally_of (h ∷ [])) h (h ∷ []) refl) in
    omega (arith, second, wraps (tally_of (h ∷ [])) (2 ^ 64 - 1))
