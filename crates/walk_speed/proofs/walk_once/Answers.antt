-- `walk_once` meets its contract.
use Rattle.std.specs.Prelude.{Ok, Err}
use Prim.Native.Nat.{ℕ}
use mathlib.Core.List.{List}
use mathlib.Core.Option as M
use mathlib.Core.Path.{◌≡◌, refl, sym, ap, ◌∙◌}
use native.Mathlib.Omega.{arith}
use Rattle.streaming.specs.declared.FlatHeader.{FlatHeader}
use Rattle.streaming.specs.declared.FlatWalker.{FlatWalker}
use Rattle.streaming.specs.declared.StreamError.{StreamError}
use Rattle.rules.specs.Header.{start_refusal}
use Rattle.flat.specs.Flat.{begun_of, started, start_of}
use Rattle.walk_speed.specs.Sums.{sum_of}
use Rattle.walk_speed.proofs.Refused.{no_walk}
use Rattle.walk_speed.proofs.walk_once.Goals as goal

-- a walk that has begun is that of its header; where none has, the header is refused
module _ (h : FlatHeader) (src : List ℕ) (cut n : ℕ) where
  walked : (s : FlatWalker) → Ok s ≡ start_of h → sum_of n s src cut ≡ sum_of n (begun_of h) src cut
  unfolding start_of
  walked s = by (start_refusal h)
    where
      by : (o : M.Option StreamError) → Ok s ≡ started o (begun_of h) → sum_of n s src cut ≡ sum_of n (begun_of h) src cut
      by M.none e = let k : s ≡ begun_of h = cc in ap (λ (x : FlatWalker). sum_of n x src cut) k
      by (M.some x) e = absurd (let z : ◌≡◌ {A = ℕ} 0 1 = cc in omega arith)

  unwalked : (x : StreamError) → Err x ≡ start_of h → 0 ≡ sum_of n (begun_of h) src cut
  unfolding start_of
  unwalked x = by (start_refusal h) refl
    where
      by : (o : M.Option StreamError) → start_refusal h ≡ o → Err x ≡ started o (begun_of h) → 0 ≡ sum_of n (begun_of h) src cut
      by M.none r e = absurd (let z : ◌≡◌ {A = ℕ} 0 1 = cc in omega arith)
      by (M.some y) r e = no_walk h y src cut n r

pub returns-in-Ok : goal.returns-in-Ok
returns-in-Ok c =
    c.sum.ensures ∙ walked c.header-h.result c.args.source.now c.args.cut c.args.turns c.in-Ok.begun (sym c.in-Ok.is ∙ c.start.ensures)
    ∙ ap (λ (h : FlatHeader). sum_of c.args.turns (begun_of h) c.args.source.now c.args.cut) c.header-h.ensures

pub returns-in-Err : goal.returns-in-Err
returns-in-Err c =
    unwalked c.header-h.result c.args.source.now c.args.cut c.args.turns _ (sym c.in-Err.is ∙ c.start.ensures)
    ∙ ap (λ (h : FlatHeader). sum_of c.args.turns (begun_of h) c.args.source.now c.args.cut) c.header-h.ensures
