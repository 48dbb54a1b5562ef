-- A header that Start refuses has no walk: from the state that it would have had, every turn is refused, and the sum is 0.
use Rattle.std.specs.Prelude.{Err, Some, None}
use Prim.Native.Nat.{ℕ, zero, suc}
use mathlib.Core.Bool.{false}
use mathlib.Core.List.{List, []}
use mathlib.Core.Option.{some}
use mathlib.Core.Path.{◌≡◌, refl, sym, ap, ◌∙◌}
use native.Mathlib.Nat.{zero-add}
use Rattle.streaming.specs.Choose.{when◌then◌else◌}
use Rattle.streaming.specs.State.{refused_by}
use Rattle.streaming.specs.Answers.{Asked, Failure}
use Rattle.streaming.specs.declared.FlatHeader.{FlatHeader}
use Rattle.streaming.specs.declared.FlatWalker.{FlatWalker}
use Rattle.streaming.specs.declared.StreamError.{StreamError}
use Rattle.streaming.specs.declared.StreamError.TheVariants as error
use Rattle.streaming.proofs.Choose.{in_both}
use Rattle.rules.specs.Header.{start_refusal}
use Rattle.section.specs.Section.{enter_section}
use Rattle.flat.specs.Fit.{fit_of}
use Rattle.flat.specs.Flat.{begun_of, offered, request_in, request_of, feed_of}
use Rattle.walk_speed.specs.Sums.{fed_by, turn_of, sum_of}

-- ---- a state that asks for nothing more but refuses

module _ (src : List ℕ) (cut : ℕ) (s : FlatWalker) (e : StreamError) (q : request_of s ≡ Err e) where
  stays : turn_of s src cut ≡ refused_by e s
  unfolding turn_of feed_of
  stays = ap (λ (x : Asked). fed_by x s src cut) q ∙ ap (λ (x : Asked). offered x s 0 []) q

  nothing : (n : ℕ) → sum_of n s src cut ≡ 0
  unfolding sum_of
  nothing zero = refl
  nothing (suc n) = rw stays (zero-add _ ∙ nothing n)

-- ---- the state of a refused header

header_kept : (h : FlatHeader) → (begun_of h).header ≡ h
unfolding begun_of enter_section
header_kept h = in_both (λ (s : FlatWalker). s.header ≡ h) _ (λ _. refl) (λ _. refl)

not_fit : (s : FlatWalker) (e : StreamError) → start_refusal s.header ≡ some e → fit_of s ≡ false
unfolding fit_of
not_fit s e r = rw r

refuses : (s : FlatWalker) → fit_of s ≡ false → (e : StreamError) × (request_of s ≡ Err e)
unfolding request_of when◌then◌else◌
refuses s unfit = split s.failure refl
  where
    split : (x : Failure) → s.failure ≡ x → (e : StreamError) × (request_in s.failure s ≡ Err e)
    split (Some f) k = (error.Fault f, ap (λ (x : Failure). request_in x s) k)
    split None k = (error.BadState, ap (λ (x : Failure). request_in x s) k ∙ rw unfit)

pub no_walk : (h : FlatHeader) (e : StreamError) (src : List ℕ) (cut n : ℕ) → start_refusal h ≡ some e → 0 ≡ sum_of n (begun_of h) src cut
no_walk h e src cut n r =
    let q = refuses (begun_of h) (not_fit (begun_of h) e (ap start_refusal (header_kept h) ∙ r)) in
    sym (nothing src cut (begun_of h) q.0 q.1 n)
