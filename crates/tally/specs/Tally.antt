-- The tally of a history, and what one more call makes of a tally. That the second keeps to the first is proved (proofs/Kept.antt).
use Rattle.std.specs.Prelude.{ℕ, ◌+◌, ◌-◌, ◌^◌, min, List, [], ◌∷◌, ◌++◌, ◌≡◌, length, Option, Some, None}
use Rattle.streaming.specs.Record.{committed_in}
use Rattle.tally.specs.declared.Tally.{Tally}
use Rattle.tally.specs.History.{Heard, Taken, taken_as, accepted_bytes, framing_bytes, payload_bytes, bytes_in, framing_in, payload_in, handles_of, handles_in, repeats}

-- a count stops at the top, 2^64 - 1, and never wraps
abbrev pub capped : ℕ → ℕ
capped n = min n (2 ^ 64 - 1)

-- ---- of a history

-- the last of some handles
unfoldable pub last_of : List ℕ → Option ℕ
last_of [] = None
last_of (x ∷ []) = Some x
last_of (x ∷ y ∷ more) = last_of (y ∷ more)

unfoldable pub tally_of : List Heard → Tally
tally_of hs = record {
  bytes = capped (bytes_in hs);
  framing = capped (framing_in hs);
  payload = capped (payload_in hs);
  objects = capped (length (handles_in hs));
  repeats = capped (repeats (handles_in hs));
  last = last_of (handles_in hs);
}

-- ---- of one more call

-- the object just before, as a list
abbrev pub known : Option ℕ → List ℕ
known None = []
known (Some x) = x ∷ []

-- a tally behind a piece of n bytes that was taken so, and committed objects of these handles: one or none
abbrev pub behind : Tally → Taken → (n : ℕ) (handles : List ℕ) → Tally
behind t taken n handles = record {
  bytes = capped (t.bytes + accepted_bytes taken n);
  framing = capped (t.framing + framing_bytes taken n);
  payload = capped (t.payload + payload_bytes taken n);
  objects = capped (t.objects + length handles);
  repeats = capped (t.repeats + repeats (known t.last ++ handles));
  last = last_of (known t.last ++ handles);
}

abbrev pub counted : Tally → Heard → Tally
counted t h = behind t (taken_as h.held h.answer) h.length (handles_of (committed_in h.answer))

-- and of calls in turn
abbrev pub counted_in : Tally → List Heard → Tally
counted_in t [] = t
counted_in t (h ∷ hs) = counted_in (counted t h) hs

-- what is made of a tally is the tally of the history, with the call behind it, wherever the tally was that of a history
abbrev pub Continues : Tally → Heard → Tally → Type 0
Continues t h r = (hs : List Heard) → t ≡ tally_of hs → r ≡ tally_of (hs ++ (h ∷ []))
