-- Four useless walkers, and that none of them meets the statement: each breaks on the whole case.
use Rattle.std.specs.Prelude.{Ok, Err}
use Prim.Native.Nat.{ℕ}
use mathlib.Core.Bool.{Bool, true, false}
use mathlib.Core.List.{[], ◌∷◌}
use mathlib.Core.Path.{◌≡◌, refl, sym, ap, ◌∙◌}
use native.Mathlib.Omega.{arith}
use lib.ListN.{length}
use Rattle.streaming.specs.Choose.{when◌then◌else◌}
use Rattle.streaming.specs.Record.{committed_in}
use Rattle.streaming.specs.declared.FlatHeader.{FlatHeader}
use Rattle.streaming.specs.declared.FlatWalker.{FlatWalker}
use Rattle.streaming.specs.declared.Part.TheVariants.{HeaderVars}
use Rattle.streaming.specs.declared.Step.{Step}
use Rattle.streaming.specs.declared.Step.TheVariants as step
use Rattle.streaming.specs.declared.StreamError.TheVariants as error
use Rattle.streaming.specs.Answers.{Asked, Ended, Answer}
use Rattle.account.specs.Account.{demand, framing}
use Rattle.account.specs.Statement.{answer_of, after, Walker, Meets}
use Rattle.account.specs.Runs.{run}
use Rattle.account.proofs.Carried.{instead}
use Rattle.rules.specs.Source.{Of}
use Rattle.rules.specs.Rules.{rules}
use Rattle.rules.specs.Object.{object_record}
use Rattle.rules.proofs.EveryRule.{every_rule}
use Rattle.rules.proofs.Cases.{whole_header, whole, whole_case, S}
use Rattle.stands.proofs.Fitness.{begun, flat_feed, flat_walker}
use Rattle.stands.proofs.WholeCase.{at}

-- ---- one that refuses everything, though it asks as it should

abbrev pub refuser : Walker FlatHeader
refuser = instead flat_walker flat_walker.request (λ s c. (Err error.Finished, s)) flat_walker.end_of_input

pub refuser_fails : Meets Of rules refuser → ⊥
unfolding Meets answer_of every_rule
refuser_fails meets =
    let e : Err error.Finished ≡ framing = (meets whole_header whole whole_case.is_whole (at 70 1 ∷ []) (λ t. refl, tt)).1 in
    let z : ◌≡◌ {A = ℕ} 0 1 = cc in omega arith

-- ---- any one with a fixed answer: the same request, the same step and the same end, whatever comes

abbrev pub fixed : Asked → Answer → Ended → Walker FlatHeader
fixed q a e = record { State = Unit {0}; start = λ h. tt; request = λ s. q; feed = λ s c. (a, s); end_of_input = λ s. e }

-- the whole case asks for the 16 bytes of a sentinel, and then for the 4 of a size
pub fixed_fails : (q : Asked) (a : Answer) (e : Ended) → Meets Of rules (fixed q a e) → ⊥
unfolding Meets after every_rule
fixed_fails q a e meets =
    let f = meets whole_header whole whole_case.is_whole (at 70 16 ∷ []) (λ t. refl, tt) in
    let first : q ≡ demand 70 16 = f.0.request in
    let second : q ≡ demand 86 4 = f.2.request in
    let z : ◌≡◌ {A = ℕ} 16 4 = cc in omega arith

-- ---- one that takes bytes as it should, and commits nothing

abbrev hushed_step : Step → Step
hushed_step step.Framing = step.Framing
hushed_step (step.Payload p) = step.Payload p
hushed_step (step.Section r) = step.Framing
hushed_step (step.Object r) = step.Framing
hushed_step step.Finished = step.Finished

abbrev hushed : Answer → Answer
hushed (Ok s) = Ok (hushed_step s)
hushed (Err e) = Err e

abbrev pub silent : Walker FlatHeader
silent = instead flat_walker flat_walker.request (λ s c. (hushed (flat_feed s c).0, (flat_feed s c).1)) flat_walker.end_of_input

hushed_step_lem : (s : Step) → committed_in (Ok (hushed_step s)) ≡ []
hushed_step_lem step.Framing = refl
hushed_step_lem (step.Payload p) = refl
hushed_step_lem (step.Section r) = refl
hushed_step_lem (step.Object r) = refl
hushed_step_lem step.Finished = refl

hushed_commits : (a : Answer) → committed_in (hushed a) ≡ []
hushed_commits (Ok s) = hushed_step_lem s
hushed_commits (Err e) = refl

-- the header variables are whole, and committed by the rules
pub silent_fails : Meets Of rules silent → ⊥
unfolding Meets answer_of after every_rule
silent_fails meets =
    let f = meets whole_header whole whole_case.is_whole (at 70 16 ∷ at 86 4 ∷ at 90 2 ∷ at 92 16 ∷ [])
    (λ t. refl, (λ t. refl, (λ t. refl, (λ t. refl, tt)))) in
    let s = run silent (begun whole_header) (at 70 16 ∷ at 86 4 ∷ at 90 2 ∷ []) in
    let e : [] ≡ S HeaderVars 70 0 ∷ [] = sym (hushed_commits (flat_feed s (at 92 16)).0) ∙ ap committed_in f.2.2.2.1 in
    let z : ◌≡◌ {A = ℕ} 0 1 = ap length e in omega arith

-- ---- one that commits the object at its first piece, and idles after

abbrev early : Answer
early = Ok (step.Object (object_record 5 146 3 (record { type = 0; handle = 5 })))

-- true before the first piece
abbrev pub eager : Walker FlatHeader
eager = record {
  State = Bool × FlatWalker;
  start = λ h. (true, begun h);
  request = λ s. flat_walker.request s.1;
  feed = λ s c. (when s.0 then early else framing, (false, (flat_feed s.1 c).1));
  end_of_input = λ s. flat_walker.end_of_input s.1;
}

pub eager_fails : Meets Of rules eager → ⊥
unfolding Meets answer_of every_rule
eager_fails meets =
    let e : early ≡ framing = (meets whole_header whole whole_case.is_whole (at 70 1 ∷ []) (λ t. refl, tt)).1 in
    let z : ◌≡◌ {A = ℕ} 0 1 = cc in omega arith
