-- A piece counts as accepted exactly where the statement takes its call: for every state and every call.
use Rattle.std.specs.Prelude.{Ok, Err, Some, None}
use Prim.Native.Nat.{ℕ}
use mathlib.Core.Bool.{Bool, true, false, ◌&&◌, false≢true}
use mathlib.Core.List.{List, [], ◌∷◌, ◌++◌}
use mathlib.Core.Path.{◌≡◌, refl, sym, ap, ap₂, ◌∙◌}
use lib.ListN.{length}
use lib.Dec.{ltb, leb, eqb}
use Rattle.streaming.specs.Choose.{when◌then◌else◌}
use Rattle.streaming.specs.Record.{committed_in}
use Rattle.streaming.specs.declared.Request.{Request}
use Rattle.streaming.specs.declared.StreamError.{StreamError}
use Rattle.streaming.specs.Answers.{Asked, Answer, Failure}
use Rattle.streaming.specs.declared.Step.{Step}
use Rattle.streaming.specs.declared.Step.TheVariants as step
use Rattle.streaming.specs.declared.Stage.{Stage}
use Rattle.streaming.specs.declared.FlatWalker.{FlatWalker}
use Rattle.streaming.specs.declared.Fed.{Fed}
use Rattle.account.specs.Statement.{Call, takes}
use Rattle.account.specs.Runs.{bytes}
use Rattle.flat.specs.Fit.{is_sound}
use Rattle.flat.specs.Flat.{request_at, request_of, feed_at, offered, feed_of}
use Rattle.flat.proofs.Demanded.{apart, demanded}
use Rattle.flat.proofs.Outcomes.{StepOrFault, outcome_at}
use Rattle.flat.proofs.Laws.{Refuses, held, unfit, refuses}
use Rattle.stands.proofs.Fitness.{flat_walker}
use Rattle.tally.specs.History.{Heard, Taken, not_taken, as_framing, as_payload, step_takes, fault_takes, taken_as, is_accepted, accepted_bytes, total, bytes_in}
use Rattle.tally.specs.Tally.{tally_of}
use Rattle.tally.specs.Run.{heard_of, heard_in}
use Rattle.tally.proofs.Sums.{adds_nothing}

-- ---- what is heard of one call

step-accepted : (s : Step) → is_accepted (step_takes s) ≡ true
step-accepted step.Framing = refl
step-accepted (step.Payload part) = refl
step-accepted (step.Section r) = refl
step-accepted (step.Object r) = refl
step-accepted step.Finished = refl

-- a fault is accepted where none was held
fault_accepted : (x : Failure) → is_sound x ≡ true → is_accepted (fault_takes x) ≡ true
fault_accepted None e = refl
fault_accepted (Some f) e = absurd (false≢true e)

told-accepted : (x : Failure) → is_sound x ≡ true → (a : Answer) (t : FlatWalker) → StepOrFault a t → is_accepted (taken_as x a) ≡ true
told-accepted x sound (Ok y) t told = step-accepted y
told-accepted x sound (Err y) t told =
    ap (λ (e : StreamError). is_accepted (taken_as x (Err e))) told.1 ∙ fault_accepted x sound

-- a stage with a demand is not the last, so an accepted piece is a step or a fault
stage_tells : (g : Stage) (s : FlatWalker) (r : Request) (piece : List ℕ) → request_at g s ≡ Ok (Some r)
    → StepOrFault (feed_at g s piece).answer (feed_at g s piece).state
stage_tells g s r piece q = (outcome_at g s piece (λ e. done (ap (λ (x : Stage). request_at x s) (sym e) ∙ q))).told
  where
    done : ◌≡◌ {A = Asked} (Ok None) (Ok (Some r)) → ⊥
    done z = apart (cc)

module _ (s : FlatWalker) (c : Call) where
  abbrev Agrees : Asked → Fed → Type 0
  Agrees q r = is_accepted (taken_as s.failure r.answer) ≡ takes q c

  refused_agrees : (e : StreamError) → Refuses s e → is_accepted (taken_as s.failure (Err e)) ≡ false
  refused_agrees e (held f k same) =
      ap₂ (λ (x : Failure) (y : StreamError). is_accepted (taken_as x (Err y))) k same
  refused_agrees e (unfit k n same) = ap (λ (y : StreamError). is_accepted (taken_as s.failure (Err y))) same

  pub accepted_taken : is_accepted (taken_as s.failure (feed_of s c.offset c.piece).answer) ≡ takes (request_of s) c
  unfolding feed_of when◌then◌else◌
  accepted_taken = by_asked (request_of s) refl
    where
      by_tests : (r : Request) → request_of s ≡ Ok (Some r) → (a : Bool) → eqb c.offset r.offset ≡ a
          → (b : Bool) → (ltb 0 (length c.piece) && leb (length c.piece) r.len) ≡ b
          → Agrees (Ok (Some r)) (offered (Ok (Some r)) s c.offset c.piece)
      by_tests r q true e true k =
          let d = demanded s r q in
          let fed = feed_at s.stage s c.piece in
          rw (e, k) (told-accepted s.failure d.sound fed.answer fed.state (stage_tells s.stage s r c.piece d.asks))
      by_tests r q true e false k = rw (e, k)
      by_tests r q false e b k = rw e

      by_asked : (q : Asked) → request_of s ≡ q → Agrees q (offered q s c.offset c.piece)
      by_asked (Ok None) e = refl
      by_asked (Err x) e = refused_agrees x (refuses s x e)
      by_asked (Ok (Some r)) e =
          by_tests r e (eqb c.offset r.offset) refl (ltb 0 (length c.piece) && leb (length c.piece) r.len) refl

-- ---- and of a run

accepted-bytes : (k : Taken) (n : ℕ) → accepted_bytes k n ≡ when is_accepted k then n else 0
unfolding when◌then◌else◌
accepted-bytes not_taken n = refl
accepted-bytes as_framing n = refl
accepted-bytes as_payload n = refl

pub bytes_taken_lem : (cs : List Call) (s : FlatWalker) → bytes_in (heard_in s cs) ≡ bytes flat_walker s cs
unfolding heard_in total
bytes_taken_lem [] s = refl
bytes_taken_lem (c ∷ cs) s =
    let n = length c.piece in
    let one = accepted-bytes (taken_as s.failure (heard_of s c).answer) n ∙ ap (λ (b : Bool). when b then n else 0) (accepted_taken s c) in
    rw (one, bytes_taken_lem cs (feed_of s c.offset c.piece).state)

-- ---- a call that is not taken

not_accepted : (k : Taken) → is_accepted k ≡ false → k ≡ not_taken
not_accepted not_taken e = refl
not_accepted as_framing e = absurd (false≢true (sym e))
not_accepted as_payload e = absurd (false≢true (sym e))

commits_none : (x : Failure) (a : Answer) → is_accepted (taken_as x a) ≡ false → committed_in a ≡ []
commits_none x (Ok y) e = absurd (false≢true (sym e ∙ step-accepted y))
commits_none x (Err y) e = refl

-- it leaves the tally of every history as it was
pub refused_adds_nothing : (s : FlatWalker) (c : Call) → takes (request_of s) c ≡ false → (hs : List Heard) → tally_of (hs ++ (heard_of s c ∷ [])) ≡ tally_of hs
refused_adds_nothing s c refused hs =
    let e = accepted_taken s c ∙ refused in
    adds_nothing hs (heard_of s c) (not_accepted (taken_as s.failure (heard_of s c).answer) e) (commits_none s.failure (heard_of s c).answer e)
