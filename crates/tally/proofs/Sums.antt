-- Sums over a history: framing and payload make up the bytes, and a call that takes nothing adds nothing.
use Prim.Native.Nat.{ℕ, ◌+◌}
use mathlib.Core.List.{List, [], ◌∷◌, ◌++◌, append-nil, append_assoc}
use mathlib.Core.Path.{◌≡◌, refl, sym, ap, ap₂, ◌∙◌}
use native.Mathlib.Omega.{arith}
use Rattle.streaming.specs.Record.{Record, committed_in}
use Rattle.tally.specs.declared.Tally.{Tally}
use Rattle.tally.specs.History.{Heard, Taken, not_taken, as_framing, as_payload, taken_as, accepted_bytes, framing_bytes, payload_bytes}
use Rattle.tally.specs.History.{total, bytes_in, framing_in, payload_in, handles_of}
use Rattle.tally.specs.Tally.{tally_of, behind, counted_in}
use Rattle.tally.proofs.Laws.{Fits, untaken}
use Rattle.tally.proofs.Kept.{continued}

-- ---- bytes

taken_adds_up : (k : Taken) (n : ℕ) → framing_bytes k n + payload_bytes k n ≡ accepted_bytes k n
taken_adds_up not_taken n = refl
taken_adds_up as_framing n = omega arith
taken_adds_up as_payload n = omega arith

pub adds_up : (hs : List Heard) → framing_in hs + payload_in hs ≡ bytes_in hs
unfolding total
adds_up [] = refl
adds_up (h ∷ hs) = omega (arith, taken_adds_up (taken_as h.held h.answer) h.length, adds_up hs)

-- ---- calls in turn

counted_on : (hs more : List Heard) → counted_in (tally_of hs) more ≡ tally_of (hs ++ more)
counted_on hs [] = ap tally_of (sym (append-nil hs))
counted_on hs (h ∷ more) =
    ap (λ (t : Tally). counted_in t more) (sym (continued hs h)) ∙ counted_on (hs ++ (h ∷ [])) more ∙ ap tally_of (append_assoc hs (h ∷ []) more)

pub counted_all : (hs : List Heard) → counted_in (tally_of []) hs ≡ tally_of hs
counted_all hs = counted_on [] hs

-- ---- a call that takes nothing

pub fits-of : (hs : List Heard) → Fits (tally_of hs)
unfolding tally_of
fits-of hs = record { bytes = omega arith; framing = omega arith; payload = omega arith; objects = omega arith; repeats = omega arith }

pub adds_nothing : (hs : List Heard) (h : Heard) → taken_as h.held h.answer ≡ not_taken → committed_in h.answer ≡ []
    → tally_of (hs ++ (h ∷ [])) ≡ tally_of hs
unfolding handles_of
adds_nothing hs h e none =
    continued hs h
    ∙ ap₂ (λ (k : Taken) (rs : List Record). behind (tally_of hs) k h.length (handles_of rs)) e none
    ∙ sym (untaken (tally_of hs) h.length (fits-of hs))
