-- A walker that follows an account in every run over a source follows, behind some calls, what is left of the account.
use Prim.Native.Nat.{ℕ}
use mathlib.Core.List.{List, [], ◌∷◌}
use mathlib.Core.Path.{◌≡◌}
use Rattle.account.specs.Account.{Account, ask_of, passed}
use Rattle.account.specs.Statement.{Call, after, answer_of, Walker, HonestCall, Honest, Asks, Follows, Meets}
use Rattle.account.specs.Runs.{run, bytes}
use Rattle.account.proofs.Fronts.{passed-passed}
use Rattle.account.proofs.Calls.{taking, after-passed}

module _ {H : Type 0} (W : Walker H) where
  abbrev pub Does : List ℕ → W.State → Account → Type 0
  Does src st a = (cs : List Call) → Honest W src st cs → Follows W st a cs

  module _ {src : List ℕ} (st : W.State) (a : Account) (does : Does src st a) where
    pub asks : Asks W st a
    asks = does [] tt

    pub answers : (c : Call) → HonestCall W src st c → (W.feed st c).0 ≡ answer_of a c
    answers c h = (does (c ∷ []) (h, tt)).1

    pub does_after : (c : Call) → HonestCall W src st c → Does src (W.feed st c).1 (after a c)
    does_after c h cs k = (does (c ∷ cs) (h, k)).2

  pub does_run : (cs : List Call) {src : List ℕ} (st : W.State) (a : Account) → Does src st a → Honest W src st cs
      → Does src (run W st cs) (passed (bytes W st cs) a)
  does_run [] st a d h = d
  does_run (c ∷ cs) st a d h =
      rw ((asks st a d).request, ← passed-passed (taking (ask_of a) c) (bytes W (W.feed st c).1 cs) a, ← after-passed a c)
      (does_run cs (W.feed st c).1 (after a c) (does_after st a d c h.0) h.1)

-- so does a walker that meets some rules, from its start, with their account
pub meets_does : {H : Type 0} (Of : H → List ℕ → Type 0) (rules : H → List ℕ → Account) (W : Walker H) → Meets Of rules W
    → (h : H) (src : List ℕ) → Of h src → Does W src (W.start h) (rules h src)
unfolding Meets
meets_does Of rules W meets = meets
