-- What each call's answer comes to, over plain values: the test of fitness, and the demand's own refusals.
use Rattle.std.specs.Prelude.{Ok, Err, Some, None}
use Prim.Native.Nat.{ℕ}
use mathlib.Core.Bool.{Bool, true, false, ◌&&◌}
use mathlib.Core.List.{List}
use mathlib.Core.Path.{◌≡◌, refl, sym, ap}
use lib.ListN.{length}
use lib.Dec.{ltb, leb, eqb}
use Rattle.streaming.specs.Choose.{when◌then◌else◌}
use Rattle.streaming.specs.State.{refused_by}
use Rattle.streaming.specs.declared.Request.{Request}
use Rattle.streaming.specs.declared.StreamError.TheVariants as error
use Rattle.streaming.specs.Answers.{Ended, Failure}
use Rattle.streaming.specs.declared.Stage.{Stage}
use Rattle.streaming.specs.declared.Stage.TheVariants as stage
use Rattle.streaming.specs.declared.FlatWalker.{FlatWalker}
use Rattle.streaming.specs.declared.Fed.{Fed}
use Rattle.section.specs.Section.{request_section}
use Rattle.chunk.specs.Chunk.{request_chunk}
use Rattle.entry.specs.Entry.{request_entry}
use Rattle.object.specs.Object.{request_object}
use Rattle.flat.specs.Fit.{fit_at, fit_of}
use Rattle.flat.specs.Flat.{asked_if, request_at, request_in, request_of, offered_to, offered_by, feed_at}
use Rattle.flat.specs.Offer.{offer_of, fed_if, fed_at}

-- ---- what a piece does

-- by whether it is taken
abbrev pub by_offer : Ended → FlatWalker → Fed → Fed
by_offer (Ok done) s taken = taken
by_offer (Err e) s taken = refused_by e s

pub offered_by_offer : (r : Request) (s : FlatWalker) (offset : ℕ) (piece : List ℕ) (taken : Fed)
    → offered_to r s offset piece taken ≡ by_offer (offer_of r offset (length piece)) s taken
unfolding offer_of when◌then◌else◌
offered_by_offer r s offset piece taken = both (eqb offset r.offset) (ltb 0 (length piece) && leb (length piece) r.len)
  where
    both : (a b : Bool)
        → when a then (when b then taken else refused_by (error.InvalidFeed r.len (length piece)) s) else refused_by (error.WrongOffset r.offset offset) s
        ≡ by_offer (when a then (when b then Ok tt else Err (error.InvalidFeed r.len (length piece))) else Err (error.WrongOffset r.offset offset)) s taken
    both true true = refl
    both true false = refl
    both false b = refl

-- the same from the other side
pub offered_by_lem : (r : Request) (s : FlatWalker) (offset : ℕ) (piece : List ℕ) (taken : Fed)
    → by_offer (offer_of r offset (length piece)) s taken ≡ offered_to r s offset piece taken
offered_by_lem r s offset piece taken = sym (offered_by_offer r s offset piece taken)

-- ---- what is asked for

-- where no failure is held, a demand is asked for by the stage, if the state is fit
pub requested_none : (s : FlatWalker) → s.failure ≡ None → request_of s ≡ asked_if (fit_of s) (request_at s.stage s)
unfolding request_of
requested_none s e = ap (λ (w : Failure). request_in w s) e

-- ---- by the stage

-- what the stages do is what is done by what is asked for
pub fed_stage : (g : Stage) (s : FlatWalker) (offset : ℕ) (piece : List ℕ)
    → fed_at g s offset piece ≡ offered_by g (asked_if (fit_at g s) (request_at g s)) s offset piece
unfolding when◌then◌else◌
fed_stage g s offset piece = by_stage g
  where
    both : (g : Stage) (fit : Bool) (r : Request) → fed_if fit r s offset piece (feed_at g s piece) ≡ offered_by g (asked_if fit (Ok (Some r))) s offset piece
    both g true r = refl
    both g false r = refl

    by_stage : (g : Stage) → fed_at g s offset piece ≡ offered_by g (asked_if (fit_at g s) (request_at g s)) s offset piece
    by_stage stage.Vars = both stage.Vars (fit_at stage.Vars s) (request_section s)
    by_stage stage.Classes = both stage.Classes (fit_at stage.Classes s) (request_section s)
    by_stage stage.Chunk = both stage.Chunk (fit_at stage.Chunk s) (request_chunk s)
    by_stage stage.Entry = both stage.Entry (fit_at stage.Entry s) (request_entry s)
    by_stage stage.Object = both stage.Object (fit_at stage.Object s) (request_object s)
    by_stage stage.Done = refl

-- ---- choices

module _ {A : Type 0} (x y : A) where
  pub when_true : (when true then x else y) ≡ x
  unfolding when◌then◌else◌
  when_true = refl

  pub when_false : (when false then x else y) ≡ y
  unfolding when◌then◌else◌
  when_false = refl

-- what a call's contract needs, where it goes by a test
pub ruleset choices = (when_true, when_false)
