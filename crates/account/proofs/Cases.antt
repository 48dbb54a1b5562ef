-- The small format's runs: cut in two ways, refused, at fault in the middle of a piece; and walkers that do not meet it.
use Rattle.std.specs.Prelude.{Ok, Err}
use Prim.Native.Nat.{ℕ}
use mathlib.Core.Bool.{false≢true}
use mathlib.Core.List.{List, [], ◌∷◌}
use mathlib.Core.Path.{◌≡◌, refl}
use native.Mathlib.Omega.{arith}
use lib.ListN.{length}
use lib.Dec.{eqb}
use Rattle.streaming.specs.Choose.{when◌then◌else◌}
use Rattle.streaming.specs.Record.{object, committed_in}
use Rattle.streaming.specs.declared.Step.TheVariants as step
use Rattle.streaming.specs.declared.StreamError.TheVariants as error
use Rattle.streaming.specs.Answers.{Answer}
use Rattle.account.specs.Account.{demand, framing, bytes_taken, bytes_at_most}
use Rattle.account.specs.Asking.{span, spell}
use Rattle.account.specs.Statement.{Call, answer_of, after, ended_by, Walker, Honest, Meets}
use Rattle.account.specs.Runs.{bytes, committed, Whole}
use Rattle.account.proofs.Carried.{instead}
use Rattle.account.proofs.Main.{whole_run}
use Rattle.account.proofs.Instance.{giving, Of, rules, found, tidy, request_of, walker, meets}

-- ---- runs, with the limit 10 and the bytes 7, 8, 5

abbrev at : ℕ → List ℕ → Call
at offset piece = record { offset = offset; piece = piece }

abbrev src : List ℕ
src = 7 ∷ 8 ∷ 5 ∷ []

abbrev two_calls : List Call
two_calls = at 0 (7 ∷ 8 ∷ []) ∷ at 2 (5 ∷ []) ∷ []

-- cut elsewhere, and with a call that is refused
abbrev four_calls : List Call
four_calls = at 0 (7 ∷ []) ∷ at 2 (6 ∷ []) ∷ at 1 (8 ∷ []) ∷ at 2 (5 ∷ []) ∷ []

honest_two : Honest walker src (giving 10 0) two_calls
honest_two = (λ e. refl, (λ e. refl, tt))

honest_four : Honest walker src (giving 10 0) four_calls
unfolding when◌then◌else◌
honest_four = (λ e. refl, (λ e. absurd (false≢true e), (λ e. refl, (λ e. refl, tt))))

committed_two : committed walker (giving 10 0) two_calls ≡ object (found 5) ∷ []
unfolding when◌then◌else◌
committed_two = refl

committed_four : committed walker (giving 10 0) four_calls ≡ object (found 5) ∷ []
unfolding when◌then◌else◌
committed_four = refl

whole_four : Whole walker (rules 10 src) (giving 10 0) four_calls
unfolding when◌then◌else◌
whole_four = whole_run Of rules tidy walker meets 10 src refl four_calls honest_four tt

-- a call is refused by its offset first, then by its length; the end of input names what is still asked for
refused : ((walker.feed (giving 10 1) (at 2 [])).0 ≡ Err (error.WrongOffset 1 2))
    × ((walker.feed (giving 10 1) (at 1 [])).0 ≡ Err (error.InvalidFeed 1 0))
    × ((walker.feed (giving 10 1) (at 1 (8 ∷ 5 ∷ []))).0 ≡ Err (error.InvalidFeed 1 2))
unfolding when◌then◌else◌
refused = (refl, refl, refl)

truncated : walker.end_of_input (giving 10 0) ≡ Err (error.Truncated 0 2)
truncated = refl

-- a piece that is at fault in its first byte is taken whole: one byte for the rules, two for the caller
fault_bytes : (bytes_taken (rules 10 (9 ∷ 8 ∷ 5 ∷ [])) ≡ 1) × (bytes_at_most (rules 10 (9 ∷ 8 ∷ 5 ∷ [])) ≡ 2)
    × (bytes walker (giving 10 0) (at 0 (9 ∷ 8 ∷ []) ∷ []) ≡ 2)
unfolding when◌then◌else◌ spell bytes_taken bytes_at_most
fault_bytes = (refl, refl, refl)

-- ---- walkers that do not meet the rules

-- refuses everything
abbrev refuser : Walker ℕ
refuser = record {
  State = ℕ;
  start = λ h. h;
  request = λ h. demand 0 2;
  feed = λ h c. (Err error.Finished, h);
  end_of_input = λ h. ended_by (demand 0 2);
}

refuser_fails : Meets Of rules refuser → ⊥
unfolding Meets when◌then◌else◌ spell answer_of
refuser_fails h =
    let e : Err error.Finished ≡ framing = (h 10 src refl (at 0 (7 ∷ []) ∷ []) (λ e. refl, tt)).1 in
    let z : ◌≡◌ {A = ℕ} 0 1 = cc in omega arith

-- says nothing where the walker commits
abbrev hushed : Answer → Answer
hushed s = when eqb (length (committed_in s)) 0 then s else framing

abbrev silent : Walker ℕ
silent = instead walker request_of (λ st c. (hushed (walker.feed st c).0, (walker.feed st c).1)) walker.end_of_input

silent_fails : Meets Of rules silent → ⊥
unfolding Meets when◌then◌else◌ spell span answer_of after
silent_fails h =
    let e : framing ≡ Ok (step.Object (found 5)) = (h 10 src refl two_calls (λ e. refl, (λ e. refl, tt))).2.1 in
    let z : ◌≡◌ {A = ℕ} 0 1 = cc in omega arith
