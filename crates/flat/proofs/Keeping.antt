-- What it is for a call to keep fitness: where the next state holds no failure, it is fit. Laws that every stage uses.
use Rattle.std.proofs.lemmas.Bool.{and_from}
use Prim.Native.Nat.{ℕ, ◌≤◌, ◌<◌}
use mathlib.Core.Bool.{true, false, false≢true}
use mathlib.Core.Path.{◌≡◌}
use native.Mathlib.Omega.{arith}
use lib.Dec.{eqb}
use borrow.Author.Tests.{lt-ltb, le-leb, eq-eqb, eqb-false}
use borrow.Author.Rules.{rules}
use Rattle.streaming.specs.State.{failing}
use Rattle.streaming.specs.declared.Fault.{Fault}
use Rattle.streaming.specs.declared.FlatWalker.{FlatWalker}
use Rattle.rules.specs.Header.{start_refusal}
use Rattle.flat.specs.Fit.{is_taken, is_sound, fit_of, fit_at}

abbrev pub Keeps : FlatWalker → Type 0
Keeps t = is_sound t.failure ≡ true → fit_of t ≡ true

-- Start takes the state's header
abbrev pub Taken : FlatWalker → Type 0
Taken s = is_taken (start_refusal s.header) ≡ true

-- a state that failed has nothing to keep
pub keeps_failing : (s : FlatWalker) (f : Fault) → Keeps (failing s f)
keeps_failing s f e = absurd (false≢true e)

-- what `search` is handed where a conjunction of tests is to hold: its parts, and each part from its fact
pub ruleset made = (rules, and_from, lt-ltb, le-leb, eq-eqb)

-- a piece that does not reach the end stays below it
pub below : (a b : ℕ) → a ≤ b → eqb a b ≡ false → a < b
below a b h e = let other : a ≡ b → ⊥ = eqb-false a b e in omega arith

-- of a header that Start takes: the stage's own test is enough
pub keeps_at : (t : FlatWalker) → Taken t → fit_at t.stage t ≡ true → Keeps t
unfolding fit_of
keeps_at t h f e = and_from _ _ h f
