-- Laws of the driver's run: it begins with no call, each piece is one more, every piece brings the walk nearer to the bytes that the rules allow, and
-- a run that has taken all is a whole one.
use Rattle.std.specs.Prelude.{Some, None}
use Prim.Native.Nat.{ℕ, zero, suc, ◌+◌, ◌-◌, ◌/◌, ◌^◌, ◌≤◌, ◌<◌, min}
use mathlib.Core.Bool.{true}
use mathlib.Core.List.{List, [], ◌∷◌, ◌++◌, append_assoc, append-nil}
use mathlib.Core.Path.{◌≡◌, refl, sym, ap, ap₂, subst, ◌∙◌}
use lib.ListN.{length}
use native.Mathlib.Omega.{arith}
use native.Mathlib.Nat.{mul-le-mul_right}
use Rattle.streaming.specs.Choose.{when◌then◌else◌}
use Rattle.streaming.specs.declared.FlatHeader.{FlatHeader}
use Rattle.streaming.specs.declared.FlatWalker.{FlatWalker}
use Rattle.streaming.specs.Answers.{Ended}
use Rattle.account.specs.Statement.{Call, takes, Walker, HonestCall, Honest, part}
use Rattle.account.specs.Runs.{run, bytes, Past, Whole}
use Rattle.rules.specs.Header.{map_size}
use Rattle.rules.specs.Rules.{rules}
use Rattle.rules.proofs.Header.{started}
use Rattle.flat.specs.Flat.{request_of, end_of, feed_of}
use Rattle.stands.proofs.Fitness.{begun, flat_walker}
use Rattle.stands.proofs.Main as S
use Rattle.form.specs.declared.Cuts.{Cuts}
use Rattle.tally.specs.declared.Tally.{Tally}
use Rattle.tally.specs.History.{Heard, heard, bytes_in}
use Rattle.tally.specs.Tally.{tally_of, Continues}
use Rattle.tally.specs.Run.{heard_of, heard_in}
use Rattle.tally.proofs.Acceptance.{bytes_taken_lem}
use Rattle.driving.specs.Pieces.{turn_after, next_by}
use Rattle.driving.specs.Ran.{most_bytes, piece_at, calls_from, driver_calls, Ran, RanWhole, Walkable}
use Rattle.driving.proofs.Chosen.{Chosen}

-- ---- one call more behind a list of calls

module _ {H : Type 0} (W : Walker H) (src : List ℕ) (c : Call) where
  run_more : (st : W.State) (cs : List Call) → run W st (cs ++ (c ∷ [])) ≡ (W.feed (run W st cs) c).1
  run_more st [] = refl
  run_more st (d ∷ ds) = run_more (W.feed st d).1 ds

  honest-more : (st : W.State) (cs : List Call) → Honest W src st cs → HonestCall W src (run W st cs) c → Honest W src st (cs ++ (c ∷ []))
  honest-more st [] h k = (k, tt)
  honest-more st (d ∷ ds) h k = (h.0, honest-more (W.feed st d).1 ds h.1 k)

  bytes-more : (st : W.State) (cs : List Call) → takes (W.request (run W st cs)) c ≡ true
      → bytes W st (cs ++ (c ∷ [])) ≡ bytes W st cs + length c.piece
  unfolding when◌then◌else◌
  bytes-more st [] t = rw t (omega arith)
  bytes-more st (d ∷ ds) t = omega (arith, bytes-more (W.feed st d).1 ds t)

heard-more : (c : Call) (s : FlatWalker) (cs : List Call) → heard_in s (cs ++ (c ∷ [])) ≡ heard_in s cs ++ (heard_of (run flat_walker s cs) c ∷ [])
unfolding heard_in
heard-more c s [] = refl
heard-more c s (d ∷ ds) = ap (λ (l : List Heard). heard_of s d ∷ l) (heard-more c (feed_of s d.offset d.piece).state ds)

-- ---- the driver's calls

-- a piece is the next call
calls_next : (n : ℕ) (src : List ℕ) (c : Cuts) (turn : ℕ) (s : FlatWalker) (offset len : ℕ) → next_by (request_of s) (length src) c turn ≡ Some (record { offset = offset; len = len })
    → calls_from (suc n) src c turn s ≡ piece_at src offset len ∷ calls_from n src c (turn_after c turn) (feed_of s offset (part src offset len)).state
unfolding calls_from
calls_next n src c turn s offset len e = rw e

-- where there is none, there are no more calls
calls-over : (n : ℕ) (src : List ℕ) (c : Cuts) (turn : ℕ) (s : FlatWalker) → next_by (request_of s) (length src) c turn ≡ None
    → calls_from n src c turn s ≡ []
unfolding calls_from
calls-over zero src c turn s e = refl
calls-over (suc n) src c turn s e = rw e

-- ---- the run so far

pub none_yet : (h : FlatHeader) (src : List ℕ) (c : Cuts) (s : FlatWalker) (t : Tally) → s ≡ begun h → t ≡ tally_of [] → Ran h src c 0 s t
unfolding heard_in
none_yet h src c s t e k =
    record {
      calls = [];
      honest = tt;
      leads = e;
      counts = k;
      left = most_bytes h;
      enough = omega arith;
      follows = ap (calls_from (most_bytes h) src c 0) (sym e);
    }

module _ (h : FlatHeader) (src : List ℕ) (cuts : Cuts) (set : Walkable h src cuts) where
  -- the bytes that the rules allow are far below the top of a count
  most-fits : most_bytes h < 2 ^ 64
  most-fits =
      let inside = started h set.of.starts in
      let short : h.length ≤ 60000 = omega (arith, set.of.whole, set.short) in
      let half : map_size h / 2 ≤ 60000 = omega (arith, inside.map) in
      omega (arith, mul-le-mul_right h.length half, inside.vars, inside.classes, inside.map)

  -- so the tally's bytes are those of the run
  bytes_exact : (turn : ℕ) (s : FlatWalker) (t : Tally) (ran : Ran h src cuts turn s t)
      → (t.bytes ≡ bytes flat_walker (begun h) ran.calls) × (t.bytes ≤ most_bytes h)
  unfolding tally_of
  bytes_exact turn s t ran =
      let cs = ran.calls in
      let most = S.bytes_bound h src set.of cs ran.honest in
      let same = bytes_taken_lem cs (begun h) in
      let e : t.bytes ≡ min (bytes_in (heard_in (begun h) cs)) (2 ^ 64 - 1) = ap (λ (x : Tally). x.bytes) ran.counts in
      let k : t.bytes ≡ bytes flat_walker (begun h) cs = omega (arith, e, same, most, most-fits) in
      (k, omega (arith, k, most))

  -- ---- one piece more: the source's bytes at its place, taken by the walk

  module _ (turn : ℕ) (s : FlatWalker) (t : Tally) (ran : Ran h src cuts turn s t) (offset len : ℕ)
      (next-is : next_by (request_of s) (length src) cuts turn ≡ Some (record { offset = offset; len = len })) (c : Chosen src (request_of s) offset len)
      (turn' : ℕ) (s' : FlatWalker) (t' : Tally) (turns : turn' ≡ turn_after cuts turn) (state : s' ≡ (feed_of s offset (part src offset len)).state)
      (counted : Continues t (heard s.failure (feed_of s offset (part src offset len)).answer len) t') where
    call : Call
    call = piece_at src offset len

    more : List Call
    more = ran.calls ++ (call ∷ [])

    more-honest : Honest flat_walker src (begun h) more
    unfolding call more
    more-honest = honest-more flat_walker src call (begun h) ran.calls ran.honest (λ _. ap (part src offset) (sym c.long))

    more_bytes : bytes flat_walker (begun h) more ≡ bytes flat_walker (begun h) ran.calls + len
    unfolding call more
    more_bytes =
        let taken = subst (λ (x : FlatWalker). takes (request_of x) call ≡ true) ran.leads c.taken in
        omega (arith, bytes-more flat_walker src call (begun h) ran.calls taken, c.long)

    -- the rules allow its bytes, so the driver has a call left
    left-some : ran.left ≡ suc (ran.left - 1)
    left-some = omega (arith, S.bytes_bound h src set.of more more-honest, more_bytes, ran.enough, c.some)

    then_follows : driver_calls h src cuts ≡ more ++ calls_from (ran.left - 1) src cuts turn' s'
    unfolding call more
    then_follows =
        ran.follows
        ∙ ap (λ (n : ℕ). ran.calls ++ calls_from n src cuts turn s) left-some
        ∙ ap (λ (l : List Call). ran.calls ++ l) (calls_next (ran.left - 1) src cuts turn s offset len next-is)
        ∙ sym (append_assoc ran.calls (call ∷ []) _)
        ∙ ap₂ (λ (k : ℕ) (x : FlatWalker). more ++ calls_from (ran.left - 1) src cuts k x) (sym turns) (sym state)

    more-counts : t' ≡ tally_of (heard_in (begun h) more)
    unfolding call more
    more-counts =
        let n = sym c.long in
        let whole = subst (λ (k : ℕ). Continues t (heard s.failure (feed_of s offset (part src offset len)).answer k) t') n counted in
        whole (heard_in (begun h) ran.calls) ran.counts
        ∙ ap (λ (x : FlatWalker). tally_of (heard_in (begun h) ran.calls ++ (heard_of x call ∷ []))) ran.leads
        ∙ ap tally_of (sym (heard-more call (begun h) ran.calls))

    pub one_more : Ran h src cuts turn' s' t'
    unfolding call more
    one_more =
        record {
          calls = more;
          honest = more-honest;
          leads =
              state ∙ ap (λ (x : FlatWalker). (feed_of x offset (part src offset len)).state) ran.leads ∙ sym (run_more flat_walker src call (begun h) ran.calls);
          counts = more-counts;
          left = ran.left - 1;
          enough = omega (arith, ran.enough, more_bytes, left-some, c.some);
          follows = then_follows;
        }

    -- it brings the walk nearer to the bytes that the rules allow
    pub nearer : most_bytes h - t'.bytes < most_bytes h - t.bytes
    unfolding one_more
    nearer =
        let before = bytes_exact turn s t ran in
        let behind = bytes_exact turn' s' t' one_more in
        omega (arith, before.0, behind.0, behind.1, more_bytes, c.some)

  -- ---- a run that has taken all that the source has is a whole one

  pub ran_whole : (turn : ℕ) (s : FlatWalker) (t : Tally) (e : Ended) → Ran h src cuts turn s t → next_by (request_of s) (length src) cuts turn ≡ None
      → Past src (request_of s) → e ≡ end_of s → RanWhole h src cuts e t
  ran_whole turn s t e ran over past ends =
      let cs = ran.calls in
      let all : driver_calls h src cuts ≡ cs =
      ran.follows ∙ ap (λ (l : List Call). cs ++ l) (calls-over ran.left src cuts turn s over) ∙ append-nil cs in
      let w = S.whole h src set.of cs ran.honest (subst (λ (x : FlatWalker). Past src (request_of x)) ran.leads past) in
      record {
        honest = subst (λ (l : List Call). Honest flat_walker src (begun h) l) (sym all) ran.honest;
        whole = subst (λ (l : List Call). Whole flat_walker (rules h src) (begun h) l) (sym all) w;
        ending = ends ∙ ap end_of ran.leads ∙ w.end_of_input;
        counts = ran.counts ∙ ap (λ (l : List Call). tally_of (heard_in (begun h) l)) (sym all);
      }
