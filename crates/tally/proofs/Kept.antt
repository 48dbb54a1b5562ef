-- What one more call makes of the tally of a history is the tally of the history with that call behind it.
use Prim.Native.Nat.{ℕ, ◌+◌}
use mathlib.Core.List.{List, [], ◌∷◌, ◌++◌, append_assoc, append-nil}
use mathlib.Core.Path.{◌≡◌, refl, ap, ◌∙◌}
use native.Mathlib.Omega.{arith}
use lib.ListN.{length, length-append}
use Rattle.streaming.specs.Record.{committed_in}
use Rattle.streaming.specs.declared.FlatWalker.{FlatWalker}
use Rattle.account.specs.Statement.{Call}
use Rattle.account.specs.Runs.{run}
use Rattle.flat.specs.Flat.{feed_of}
use Rattle.stands.proofs.Fitness.{flat_walker}
use Rattle.tally.specs.History.{Heard, bytes_of, framing_of, payload_of, taken_as, total, bytes_in, framing_in, payload_in, handles_of, handles_in, repeats}
use Rattle.tally.specs.Tally.{capped, last_of, tally_of, known, counted}
use Rattle.tally.specs.Run.{heard_of, heard_in}
use Rattle.tally.proofs.Laws.{by_field}

-- ---- one more behind a list

pub total-behind : (of : Heard → ℕ) (hs : List Heard) (h : Heard) → total of (hs ++ (h ∷ [])) ≡ total of hs + of h
unfolding total
total-behind of [] h = omega arith
total-behind of (x ∷ hs) h = omega (arith, total-behind of hs h)

pub handles_behind : (hs : List Heard) (h : Heard) → handles_in (hs ++ (h ∷ [])) ≡ handles_in hs ++ handles_of (committed_in h.answer)
unfolding handles_in
handles_behind [] h = append-nil _
handles_behind (x ∷ hs) h = rw (append_assoc, handles_behind hs h)

-- of two lists of handles in turn, only the last of the first has a say in the second
pub repeats-behind : (xs ys : List ℕ) → repeats (xs ++ ys) ≡ repeats xs + repeats (known (last_of xs) ++ ys)
unfolding repeats last_of
repeats-behind [] ys = omega arith
repeats-behind (x ∷ []) ys = omega arith
repeats-behind (x ∷ y ∷ more) ys = omega (arith, repeats-behind (y ∷ more) ys)

pub last-behind : (xs ys : List ℕ) → last_of (xs ++ ys) ≡ last_of (known (last_of xs) ++ ys)
unfolding last_of
last-behind [] ys = refl
last-behind (x ∷ []) ys = refl
last-behind (x ∷ y ∷ more) ys = last-behind (y ∷ more) ys

-- ---- a count that stopped stays at the top

capped-sum : (m n whole : ℕ) → whole ≡ m + n → capped whole ≡ capped (capped m + n)
capped-sum m n whole e = omega arith

-- ---- the tally

pub continued : (hs : List Heard) (h : Heard) → tally_of (hs ++ (h ∷ [])) ≡ counted (tally_of hs) h
unfolding tally_of
continued hs h =
    let new = handles_of (committed_in h.answer) in
    let old = handles_in hs in
    by_field (tally_of hs) (taken_as h.held h.answer) h.length new _ _ _ _ _ _
    (capped-sum (bytes_in hs) (bytes_of h) _ (total-behind bytes_of hs h))
    (capped-sum (framing_in hs) (framing_of h) _ (total-behind framing_of hs h))
    (capped-sum (payload_in hs) (payload_of h) _ (total-behind payload_of hs h))
    (capped-sum (length old) (length new) _ (ap length (handles_behind hs h) ∙ length-append old new))
    (capped-sum (repeats old) (repeats (known (last_of old) ++ new)) _ (ap repeats (handles_behind hs h) ∙ repeats-behind old new))
    (ap last_of (handles_behind hs h) ∙ last-behind old new)

-- ---- a run

-- what is heard of one more call
heard-behind : (cs : List Call) (s : FlatWalker) (c : Call) → heard_in s (cs ++ (c ∷ [])) ≡ heard_in s cs ++ (heard_of (run flat_walker s cs) c ∷ [])
unfolding heard_in
heard-behind [] s c = refl
heard-behind (b ∷ cs) s c = ap (λ (hs : List Heard). heard_of s b ∷ hs) (heard-behind cs (feed_of s b.offset b.piece).state c)

pub run_continued : (cs : List Call) (s : FlatWalker) (c : Call)
    → tally_of (heard_in s (cs ++ (c ∷ []))) ≡ counted (tally_of (heard_in s cs)) (heard_of (run flat_walker s cs) c)
run_continued cs s c = ap tally_of (heard-behind cs s c) ∙ continued (heard_in s cs) (heard_of (run flat_walker s cs) c)
