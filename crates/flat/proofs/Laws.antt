-- Laws of the walk by calls: what is repeated, what a refused call leaves, and what no call changes.
use Rattle.std.specs.Prelude.{Ok, Err, Some, None}
use Prim.Native.Nat.{ℕ}
use mathlib.Core.Bool.{Bool, true, false, ◌&&◌, false≢true}
use mathlib.Core.List.{List}
use mathlib.Core.Path.{◌≡◌, refl, ap, sym, subst, ◌∙◌}
use lib.ListN.{length}
use lib.Dec.{ltb, leb, eqb}
use Rattle.streaming.specs.Choose.{when◌then◌else◌}
use Rattle.streaming.specs.State.{refused_by}
use Rattle.streaming.specs.declared.Request.{Request}
use Rattle.streaming.specs.declared.Fault.{Fault}
use Rattle.streaming.specs.declared.StreamError.{StreamError}
use Rattle.streaming.specs.declared.StreamError.TheVariants as error
use Rattle.streaming.specs.Answers.{Asked, Answer, Failure}
use Rattle.streaming.specs.declared.Stage.{Stage}
use Rattle.streaming.specs.declared.Stage.TheVariants as stage
use Rattle.streaming.specs.declared.FlatWalker.{FlatWalker}
use Rattle.streaming.specs.declared.Fed.{Fed}
use Rattle.streaming.proofs.Choose.{in_both}
use Rattle.account.specs.Statement.{ended_by}
use Rattle.flat.specs.Fit.{is_sound, fit_of}
use Rattle.flat.specs.Flat.{request_at, asked_if, request_in, request_of, end_of, offered, feed_of}
use Rattle.flat.proofs.Demanded.{apart, demanded}
use Rattle.flat.proofs.Keeping.{Keeps}
use Rattle.flat.proofs.Outcomes.{StepOrFault, Outcome, outcome_at}

-- ---- after a fault

module _ (s : FlatWalker) (f : Fault) (held : s.failure ≡ Some f) where
  pub held-request : request_of s ≡ Err (error.Fault f)
  unfolding request_of
  held-request = ap (λ (x : Failure). request_in x s) held

  pub held_end : end_of s ≡ Err (error.Fault f)
  unfolding end_of
  held_end = ap ended_by held-request

  pub held-feed : (offset : ℕ) (piece : List ℕ) → feed_of s offset piece ≡ refused_by (error.Fault f) s
  unfolding feed_of
  held-feed offset piece = ap (λ (q : Asked). offered q s offset piece) held-request

-- ---- what `request` refuses

-- a stage by itself refuses nothing
stage_asks : (g : Stage) (s : FlatWalker) (e : StreamError) → request_at g s ≡ Err e → ◌≡◌ {A = ℕ} 0 1
stage_asks stage.Vars s e q = cc
stage_asks stage.Classes s e q = cc
stage_asks stage.Chunk s e q = cc
stage_asks stage.Entry s e q = cc
stage_asks stage.Object s e q = cc
stage_asks stage.Done s e q = cc

-- the failure that is held, or 19 of a state that is not fit
pub data Refuses (s : FlatWalker) (e : StreamError) : Type 0 where
  held : (f : Fault) → s.failure ≡ Some f → e ≡ error.Fault f → Refuses s e
  unfit : is_sound s.failure ≡ true → fit_of s ≡ false → e ≡ error.BadState → Refuses s e

pub refuses : (s : FlatWalker) (e : StreamError) → request_of s ≡ Err e → Refuses s e
unfolding request_of when◌then◌else◌
refuses s e q = by_failure s.failure refl q
  where
    by_fit : is_sound s.failure ≡ true → (b : Bool) → fit_of s ≡ b → asked_if b (request_at s.stage s) ≡ Err e → Refuses s e
    by_fit k true f q = apart (stage_asks s.stage s e q)
    by_fit k false f q = unfit k f (cc)

    by_failure : (x : Failure) → s.failure ≡ x → request_in x s ≡ Err e → Refuses s e
    by_failure None k q = by_fit (ap is_sound k) (fit_of s) refl q
    by_failure (Some f) k q = held f k (cc)

-- ---- what a call does: nothing but its answer, or what an accepted piece does

-- 3, 4 or 5: the piece is not what is asked for
abbrev pub OfThePiece : StreamError → Type 0
OfThePiece (error.LocatorCount count) = ⊥
OfThePiece (error.LocatorRange number) = ⊥
OfThePiece error.Finished = Unit {0}
OfThePiece (error.WrongOffset expected actual) = Unit {0}
OfThePiece (error.InvalidFeed maximum actual) = Unit {0}
OfThePiece (error.Truncated offset needed) = ⊥
OfThePiece (error.Fault f) = ⊥
OfThePiece (error.NoRoom needed) = ⊥
OfThePiece error.BadState = ⊥

pub data Did (s : FlatWalker) (r : Fed) : Type 0 where
  refused : (e : StreamError) → request_of s ≡ Err e → r ≡ refused_by e s → Did s r
  unmet : (e : StreamError) → OfThePiece e → r ≡ refused_by e s → Did s r
  accepted : Outcome s.header r → Did s r

-- a stage with a demand is not the last
more_asked : (g : Stage) (s : FlatWalker) (r : Request) → request_at g s ≡ Ok (Some r) → g ≡ stage.Done → ⊥
more_asked g s r q e = impossible (ap (λ (x : Stage). request_at x s) (sym e) ∙ q)
  where
    impossible : ◌≡◌ {A = Asked} (Ok None) (Ok (Some r)) → ⊥
    impossible z = apart (cc)

pub did : (s : FlatWalker) (offset : ℕ) (piece : List ℕ) → Did s (feed_of s offset piece)
unfolding feed_of
did s offset piece = by_asked (request_of s) refl
  where
    by_asked : (q : Asked) → request_of s ≡ q → Did s (offered q s offset piece)
    by_asked (Ok None) e = unmet error.Finished tt refl
    by_asked (Err x) e = refused x e refl
    by_asked (Ok (Some r)) e =
        in_both (Did s) (eqb offset r.offset)
        (λ h. in_both (Did s) (ltb 0 (length piece) && leb (length piece) r.len)
        (λ k. accepted (outcome_at s.stage s piece (more_asked s.stage s r (demanded s r e).asks)))
        (λ k. unmet (error.InvalidFeed r.len (length piece)) tt refl))
        (λ h. unmet (error.WrongOffset r.offset offset) tt refl)

-- ---- what follows

module _ (s : FlatWalker) (offset : ℕ) (piece : List ℕ) where
  pub header_stays : (feed_of s offset piece).state.header ≡ s.header
  header_stays = from (feed_of s offset piece) (did s offset piece)
    where
      from : (r : Fed) → Did s r → r.state.header ≡ s.header
      from r (refused e k q) = ap (λ (x : Fed). x.state.header) q
      from r (unmet e k q) = ap (λ (x : Fed). x.state.header) q
      from r (accepted o) = o.header

  pub refused_stays : (e : StreamError) → (feed_of s offset piece).answer ≡ Err e → ((f : Fault) → e ≡ error.Fault f → ⊥)
      → (feed_of s offset piece).state ≡ s
  refused_stays e a other = from (feed_of s offset piece) (did s offset piece) a
    where
      no_fault : (x : Answer) (t : FlatWalker) → StepOrFault x t → x ≡ Err e → t ≡ s
      no_fault (Ok y) t told q = apart (cc)
      no_fault (Err y) t told q = let same : y ≡ e = cc in absurd (other told.0 (sym same ∙ told.1))

      from : (r : Fed) → Did s r → r.answer ≡ Err e → r.state ≡ s
      from r (refused x k q) a = ap (λ (y : Fed). y.state) q
      from r (unmet x k q) a = ap (λ (y : Fed). y.state) q
      from r (accepted o) a = no_fault r.answer r.state o.told a

  -- a refusal that a state gave is the one that was answered
  the_answer : (r : Fed) (x e : StreamError) → r ≡ refused_by x s → r.answer ≡ Err e → x ≡ e
  the_answer r x e q a = same (sym (ap (λ (y : Fed). y.answer) q) ∙ a)
    where
      same : ◌≡◌ {A = Answer} (Err x) (Err e) → x ≡ e
      same k = cc

  pub fault_held : (f : Fault) → (feed_of s offset piece).answer ≡ Err (error.Fault f) → (feed_of s offset piece).state.failure ≡ Some f
  fault_held f a = from (feed_of s offset piece) (did s offset piece) a
    where
      by_request : Refuses s (error.Fault f) → s.failure ≡ Some f
      by_request (held g k q) = let same : g ≡ f = cc in k ∙ ap Some same
      by_request (unfit k n q) = apart (cc)

      by_piece : (x : Answer) (t : FlatWalker) → StepOrFault x t → x ≡ Err (error.Fault f) → t.failure ≡ Some f
      by_piece (Ok y) t told q = apart (cc)
      by_piece (Err y) t (g, e, holds) q = let same : g ≡ f = cc in holds ∙ ap Some same

      from : (r : Fed) → Did s r → r.answer ≡ Err (error.Fault f) → r.state.failure ≡ Some f
      from r (refused x k q) a =
          ap (λ (y : Fed). y.state.failure) q ∙ by_request (refuses s (error.Fault f) (k ∙ ap Err (the_answer r x (error.Fault f) q a)))
      from r (unmet x k q) a = absurd (subst OfThePiece (the_answer r x (error.Fault f) q a) k)
      from r (accepted o) a = by_piece r.answer r.state o.told a

  -- 19 is answered only in a state that is not fit and holds no failure
  pub bad_unfit : (feed_of s offset piece).answer ≡ Err error.BadState → request_of s ≡ Err error.BadState
  bad_unfit a = from (feed_of s offset piece) (did s offset piece) a
    where
      by_piece : (x : Answer) (t : FlatWalker) → StepOrFault x t → x ≡ Err error.BadState → request_of s ≡ Err error.BadState
      by_piece (Ok y) t told q = apart (cc)
      by_piece (Err y) t (g, e, holds) q = apart (cc)

      from : (r : Fed) → Did s r → r.answer ≡ Err error.BadState → request_of s ≡ Err error.BadState
      from r (refused x k q) a = k ∙ ap Err (the_answer r x error.BadState q a)
      from r (unmet x k q) a = absurd (subst OfThePiece (the_answer r x error.BadState q a) k)
      from r (accepted o) a = by_piece r.answer r.state o.told a

-- ---- no state that a walk reaches is answered with 19

module _ (s : FlatWalker) (kept : Keeps s) where
  pub request_never_bad : request_of s ≡ Err error.BadState → ⊥
  request_never_bad q = from (refuses s error.BadState q)
    where
      from : Refuses s error.BadState → ⊥
      from (held f k e) = apart (cc)
      from (unfit k n e) = false≢true (sym n ∙ kept k)

  pub feed_never_bad : (offset : ℕ) (piece : List ℕ) → (feed_of s offset piece).answer ≡ Err error.BadState → ⊥
  feed_never_bad offset piece a = request_never_bad (bad_unfit s offset piece a)
