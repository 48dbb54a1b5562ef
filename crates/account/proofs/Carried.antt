-- A walker that does as another one, in every state that has an invariant, meets the same rules: a test that never fails may be carried in.
use Prim.Native.Nat.{ℕ}
use mathlib.Core.List.{List, [], ◌∷◌}
use mathlib.Core.Path.{◌≡◌, ◌∙◌}
use Rattle.streaming.specs.Answers.{Asked, Ended, Answer}
use Rattle.account.specs.Account.{Account}
use Rattle.account.specs.Statement.{Call, after, Walker, Honest, Asks, Follows, Meets}

module _ {H : Type 0} (W : Walker H) (request : W.State → Asked) (feed : W.State → Call → Answer × W.State) (end_of_input : W.State → Ended) where
  -- the walker with these in place of its own
  abbrev pub instead : Walker H
  instead = record { State = W.State; start = W.start; request = request; feed = feed; end_of_input = end_of_input }

  pub record SameWhere (Inv : W.State → Type 0) : Type 0 where
    pub keeps : (st : W.State) (c : Call) → Inv st → Inv (W.feed st c).1
    pub requests : (st : W.State) → Inv st → request st ≡ W.request st
    pub feeds : (st : W.State) (c : Call) → Inv st → feed st c ≡ W.feed st c
    pub ends : (st : W.State) → Inv st → end_of_input st ≡ W.end_of_input st

  module _ {Inv : W.State → Type 0} (same : SameWhere Inv) where
    honest-over : (cs : List Call) (src : List ℕ) (st : W.State) → Inv st → Honest instead src st cs → Honest W src st cs
    honest-over [] src st v h = tt
    honest-over (c ∷ cs) src st v h =
        (rw (same.requests st v) at h.0, honest-over cs src (W.feed st c).1 (same.keeps st c v) (rw (same.feeds st c v) at h.1))

    asks_over : (st : W.State) (a : Account) → Inv st → Asks W st a → Asks instead st a
    asks_over st a v q = record { request = same.requests st v ∙ q.request; end_of_input = same.ends st v ∙ q.end_of_input }

    follows-over : (cs : List Call) (st : W.State) (a : Account) → Inv st → Follows W st a cs → Follows instead st a cs
    follows-over [] st a v f = asks_over st a v f
    follows-over (c ∷ cs) st a v f = (
      asks_over st a v f.0,
      rw (same.feeds st c v) f.1,
      rw (same.feeds st c v) (follows-over cs (W.feed st c).1 (after a c) (same.keeps st c v) f.2),
    )

    pub meets_over : (Of : H → List ℕ → Type 0) (rules : H → List ℕ → Account) → ((h : H) (src : List ℕ) → Of h src → Inv (W.start h))
        → Meets Of rules W → Meets Of rules instead
    unfolding Meets
    meets_over Of rules i meets h src of cs k =
        follows-over cs (W.start h) (rules h src) (i h src of) (meets h src of cs (honest-over cs src (W.start h) (i h src of) k))
