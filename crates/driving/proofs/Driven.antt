-- What the driver's functions need of their callers and of each turn, over plain values.
use Rattle.std.specs.Prelude.{Option, Ok, Some, None}
use Prim.Native.Nat.{ℕ, ◌+◌, ◌-◌, ◌≤◌}
use mathlib.Core.List.{List}
use mathlib.Core.Option as M
use mathlib.Core.Path.{◌≡◌, refl, sym, ap₂, subst, ◌∙◌}
use lib.ListN.{length, take, drop}
use native.Mathlib.Omega.{arith}
use Rattle.streaming.specs.declared.FlatHeader.{FlatHeader}
use Rattle.streaming.specs.declared.FlatWalker.{FlatWalker}
use Rattle.streaming.specs.declared.StreamError.{StreamError}
use Rattle.streaming.specs.Answers.{Asked, Answer}
use Rattle.streaming.specs.declared.Fed.{Fed}
use Rattle.account.specs.Statement.{part}
use Rattle.account.specs.Runs.{Past}
use Rattle.rules.specs.Header.{start_refusal}
use Rattle.flat.specs.Flat.{begun_of, started, start_of, request_of, feed_of}
use Rattle.flat.proofs.Main.{demand-some}
use Rattle.form.specs.declared.Cuts.{Cuts}
use Rattle.form.specs.Cutting.{Cutting}
use Rattle.tally.specs.declared.Tally.{Tally}
use Rattle.tally.specs.History.{heard}
use Rattle.tally.specs.Tally.{Continues}
use Rattle.driving.specs.Pieces.{next_by}
use Rattle.driving.specs.Ran.{Walkable}
use Rattle.driving.specs.declared.pieces.Piece.{Piece}
use Rattle.driving.proofs.Chosen.{Turning, Chosen, chosen, past}

-- ---- `take`

pub fed_part : (s : FlatWalker) (src : List ℕ) (offset len : ℕ) (r : Fed) → r ≡ feed_of s offset (take (offset + len - offset) (drop offset src))
    → r ≡ feed_of s offset (part src offset len)
fed_part s src offset len r e = let m : offset + len - offset ≡ len = omega arith in rw m at e

pub counted-part : (t r : Tally) (s : FlatWalker) (len : ℕ) (a b : Answer) → a ≡ b → Continues t (heard s.failure a len) r → Continues t (heard s.failure b len) r
counted-part t r s len a b e = subst (λ (x : Answer). Continues t (heard s.failure x len) r) e

-- ---- `walk`

module _ (h : FlatHeader) (src : List ℕ) (cuts : Cuts) (set : Walkable h src cuts) (s : FlatWalker) (turn : ℕ) (turning : Turning cuts turn)
    (q : Asked) (asks : q ≡ request_of s) (n : Option Piece) (found : n ≡ next_by q h.length cuts turn) where
  pub next_found : next_by (request_of s) (length src) cuts turn ≡ n
  next_found = ap₂ (λ (k : ℕ) (x : Asked). next_by x k cuts turn) set.of.whole (sym asks) ∙ sym found

  -- what is found is a piece, and it is rightly chosen
  pub piece_next : (p : Piece) → n ≡ Some p
      → (next_by (request_of s) (length src) cuts turn ≡ Some p) × Chosen src (request_of s) p.offset p.len
  piece_next p e = (
    next_found ∙ e,
    chosen src cuts turn set.cutting turning (request_of s) (length src) p (λ r d. demand-some s r d) refl (sym (next_found ∙ e)),
  )

  pub all_past : n ≡ None → Past src (request_of s)
  all_past e = past src cuts turn set.cutting turning (request_of s) (length src) refl (sym (next_found ∙ e))

-- ---- `begin`

-- a walk that has begun has a header that Start takes, and is the walk of that header
has_begun : (o : M.Option StreamError) {w s : FlatWalker} → Ok s ≡ started o w → (o ≡ M.none) × (s ≡ w)
has_begun M.none e = (refl, cc)
has_begun (M.some x) e = absurd (let z : ◌≡◌ {A = ℕ} 0 1 = cc in omega arith)

pub walkable : (h : FlatHeader) (src : List ℕ) (cuts : Cuts) (s : FlatWalker) → Ok s ≡ start_of h
    → length src ≡ h.length → length src ≤ 60000 → Cutting cuts → Walkable h src cuts × (s ≡ begun_of h)
unfolding start_of
walkable h src cuts s e whole short cutting =
    let b = has_begun (start_refusal h) e in
    (record { of = record { starts = b.0; whole = whole }; short = short; cutting = cutting }, b.1)
