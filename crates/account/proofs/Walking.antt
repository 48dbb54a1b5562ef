-- The walker over a machine that takes pieces: it refuses what does not fit what it asks for, and hands the rest to the machine. It meets the rules
-- if, from its start, the machine goes through every source as they say.
use Rattle.std.specs.Prelude.{Err}
use Prim.Native.Nat.{ℕ}
use mathlib.Core.Bool.{Bool, true, false}
use mathlib.Core.List.{List, [], ◌∷◌}
use mathlib.Core.Path.{◌≡◌, refl, ap}
use Rattle.streaming.specs.Choose.{when◌then◌else◌}
use Rattle.streaming.specs.Answers.{Answer}
use Rattle.account.specs.Account.{Account, ask_of}
use Rattle.account.specs.Statement.{Call, takes, refusal, answer_of, after, ended_by, Walker, HonestCall, Honest, Asks, Follows, Meets}
use Rattle.account.proofs.Calls.{taken}
use Rattle.account.proofs.Walks.{Machine, On, on_asks, on_takes}

module _ {H : Type 0} (M : Machine) (start : H → M.State) where
  abbrev pub fed : M.State → Call → Answer × M.State
  fed st c = when takes (M.request st) c then M.feed st c.piece else (Err (refusal (M.request st) c), st)

  abbrev pub walker_of : Walker H
  walker_of = record { State = M.State; start = start; request = M.request; feed = fed; end_of_input = λ st. ended_by (M.request st) }

  module _ (src : List ℕ) where
    record Answered (st : M.State) (a : Account) (c : Call) : Type 0 where
      answer : (fed st c).0 ≡ answer_of a c
      goes : On M src (fed st c).1 (after a c)

    answered : {st : M.State} {a : Account} → On M src st a → (c : Call) → HonestCall walker_of src st c → Answered st a c
    unfolding answer_of after when◌then◌else◌
    answered {st} {a} o c honest = split (takes (ask_of a) c) refl
      where
        q : M.request st ≡ ask_of a
        q = on_asks M src o

        split : (b : Bool) → takes (ask_of a) c ≡ b → Answered st a c
        split false e = record { answer = rw (q, e); goes = rw (q, e) o }
        split true e =
            let t = taken (ask_of a) c e in
            let z = on_takes M src o c.offset t.left t.asked c.piece t.some t.fits (honest (rw (q, e))) in
            record { answer = rw (q, e) z.says; goes = rw (q, e) z.on }

    asks : {st : M.State} {a : Account} → On M src st a → Asks walker_of st a
    asks o = record { request = on_asks M src o; end_of_input = ap ended_by (on_asks M src o) }

    follows : (cs : List Call) {st : M.State} {a : Account} → On M src st a → Honest walker_of src st cs → Follows walker_of st a cs
    follows [] o h = asks o
    follows (c ∷ cs) o h = let z = answered o c h.0 in (asks o, z.answer, follows cs z.goes h.1)

  pub walker_meets : (Of : H → List ℕ → Type 0) (rules : H → List ℕ → Account)
      → ((h : H) (src : List ℕ) → Of h src → On M src (start h) (rules h src)) → Meets Of rules walker_of
  unfolding Meets
  walker_meets Of rules begins h src of cs honest = follows src cs (begins h src of) honest
