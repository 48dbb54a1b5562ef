-- Fitness is kept by every accepted piece, by every call, and by every list of calls from Start on.
use Rattle.std.specs.Prelude.{Ok, Err, Some, None}
use Prim.Native.Nat.{ℕ, ◌≤◌, ◌<◌}
use mathlib.Core.Bool.{true}
use mathlib.Core.List.{List, [], ◌∷◌}
use mathlib.Core.Option.{none}
use mathlib.Core.Path.{◌≡◌, refl, ap, sym, subst}
use native.Mathlib.Omega.{arith}
use lib.ListN.{length, get_or}
use Rattle.octets.specs.Octets.{same}
use Rattle.streaming.specs.declared.FlatHeader.{FlatHeader}
use Rattle.streaming.specs.declared.Request.{Request}
use Rattle.streaming.specs.Answers.{Asked}
use Rattle.streaming.specs.declared.Stage.{Stage}
use Rattle.streaming.specs.declared.Stage.TheVariants as stage
use Rattle.streaming.specs.declared.FlatWalker.{FlatWalker}
use Rattle.streaming.specs.declared.Fed.{Fed}
use Rattle.streaming.proofs.Cases.{shown}
use Rattle.streaming.proofs.Choose.{in_both, and_left, and_right}
use Rattle.account.specs.Statement.{Call}
use Rattle.rules.specs.Header.{start_refusal, map_start}
use Rattle.chunk.specs.Fit.{no_object, no_entry}
use Rattle.section.specs.Section.{enter_next}
use Rattle.flat.specs.Fit.{is_taken, fit_of, fit_at}
use Rattle.flat.specs.Flat.{blank, begun_of, request_at, request_of, feed_at, offered, feed_of}
use Rattle.flat.proofs.Demanded.{demanded}
use Rattle.flat.proofs.Keeping.{Keeps, Taken}
use Rattle.flat.proofs.KeepingSection.{fit_section_untouched, keeps_enter_section, keeps_section}
use Rattle.flat.proofs.KeepingChunk.{keeps_enter_chunk, keeps_chunk}
use Rattle.flat.proofs.KeepingEntry.{keeps_entry}
use Rattle.flat.proofs.KeepingObject.{keeps_object}

-- ---- an accepted piece

pub fit_taken : (s : FlatWalker) → fit_of s ≡ true → Taken s
unfolding fit_of
fit_taken s e = search and_left

pub fit_stage : (s : FlatWalker) → fit_of s ≡ true → fit_at s.stage s ≡ true
unfolding fit_of
fit_stage s e = search and_right

-- how many bytes are demanded
abbrev len_in : Asked → ℕ
len_in (Ok (Some r)) = r.len
len_in (Ok None) = 0
len_in (Err e) = 0

module _ (s : FlatWalker) (piece : List ℕ) (fit : fit_of s ≡ true) (some : 0 < length piece) where
  taken : Taken s
  taken = fit_taken s fit

  -- by the stage that is in hand
  module _ (g : Stage) (e : s.stage ≡ g) where
    at : fit_at g s ≡ true
    at = subst (λ (x : Stage). fit_at x s ≡ true) e (fit_stage s fit)

    own : (t : FlatWalker) → fit_at s.stage t ≡ fit_at g t
    own t = ap (λ (x : Stage). fit_at x t) e

    next : Keeps (enter_next g s) → Keeps (enter_next s.stage s)
    next k = subst (λ (x : Stage). Keeps (enter_next x s)) (sym e) k

  by_stage : (g : Stage) → s.stage ≡ g → length piece ≤ len_in (request_at g s) → Keeps (feed_at g s piece).state
  by_stage stage.Vars e fits =
      let f = at stage.Vars e in
      keeps_section s taken (own stage.Vars e) f
      (next stage.Vars e (keeps_enter_section s stage.Classes taken (λ t. refl) (fit_section_untouched s f))) piece fits
  by_stage stage.Classes e fits =
      let f = at stage.Classes e in
      keeps_section s taken (own stage.Classes e) f (next stage.Classes e (keeps_enter_chunk s (map_start s.header) taken (omega arith))) piece fits
  by_stage stage.Chunk e fits = keeps_chunk s taken (own stage.Chunk e) (at stage.Chunk e) piece fits
  by_stage stage.Entry e fits = keeps_entry s taken (own stage.Entry e) (at stage.Entry e) (get_or piece 0 0)
  by_stage stage.Object e fits = keeps_object s taken (own stage.Object e) (at stage.Object e) piece some fits
  by_stage stage.Done e fits = λ k. fit

  pub keeps : (r : Request) → request_at s.stage s ≡ Ok (Some r) → length piece ≤ r.len → Keeps (feed_at s.stage s piece).state
  keeps r asks fits = by_stage s.stage refl (rw asks fits)

-- ---- a call

pub keeps_feed : (s : FlatWalker) (offset : ℕ) (piece : List ℕ) → Keeps s → Keeps (feed_of s offset piece).state
unfolding feed_of
keeps_feed s offset piece kept = by_asked (request_of s) refl
  where
    by_asked : (q : Asked) → request_of s ≡ q → Keeps (offered q s offset piece).state
    by_asked (Ok None) e = kept
    by_asked (Err x) e = kept
    by_asked (Ok (Some r)) e =
        let d = demanded s r e in
        in_both (λ (f : Fed). Keeps f.state) _
        (λ h. in_both (λ (f : Fed). Keeps f.state) _
        (λ k.
        let more : 0 < length piece = search shown in
        let most : length piece ≤ r.len = search shown in
        keeps s piece d.fit more r d.asks most)
        (λ k. kept))
        (λ h. kept)

-- ---- from Start on

pub keeps_start : (h : FlatHeader) → start_refusal h ≡ none → Keeps (begun_of h)
unfolding begun_of no_object no_entry same
keeps_start h starts = keeps_enter_section (blank h) stage.Vars (ap is_taken starts) (λ t. refl) refl

-- the state behind a list of calls
abbrev pub walked : FlatWalker → List Call → FlatWalker
walked s [] = s
walked s (c ∷ cs) = walked (feed_of s c.offset c.piece).state cs

pub keeps_walked : (cs : List Call) (s : FlatWalker) → Keeps s → Keeps (walked s cs)
keeps_walked [] s kept = kept
keeps_walked (c ∷ cs) s kept = keeps_walked cs (feed_of s c.offset c.piece).state (keeps_feed s c.offset c.piece kept)

pub keeps_run : (h : FlatHeader) (cs : List Call) → start_refusal h ≡ none → Keeps (walked (begun_of h) cs)
keeps_run h cs starts = keeps_walked cs (begun_of h) (keeps_start h starts)
