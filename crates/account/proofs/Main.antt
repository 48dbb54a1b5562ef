-- The file to open first: what follows for any walker that meets some rules, each statement in full, and where its proof stands.
use Rattle.std.specs.Prelude.{Ok, Err}
use Prim.Native.Nat.{ℕ, ◌+◌, ◌≤◌}
use mathlib.Core.Bool.{false}
use mathlib.Core.List.{List, [], ◌++◌}
use mathlib.Core.Logic.{◌⊎◌}
use mathlib.Core.Path.{◌≡◌, sym, ◌∙◌}
use lib.ListN.{length}
use Rattle.streaming.specs.Choose.{when◌then◌else◌}
use Rattle.streaming.specs.Record.{committed_in}
use Rattle.streaming.specs.declared.Fault.{Fault}
use Rattle.streaming.specs.Answers.{Asked, Ended, Answer}
use Rattle.account.specs.Account.{Account, broken, passed, says_at, records_in, records_within}
use Rattle.account.specs.Statement.{Call, takes, refusal, Walker, HonestCall, Honest, Meets}
use Rattle.account.specs.Runs.{run, bytes, committed, Past, Whole, Bounded, Repeats, Front, Alike}
use Rattle.account.specs.Tidy.{Tidy}
use Rattle.account.proofs.Does.{Does, does_run, meets_does}
use Rattle.account.proofs.Stands as S
use Rattle.account.proofs.Refused as R
use Rattle.account.proofs.Bounds as B
use Rattle.account.proofs.Unique as U
use Rattle.account.proofs.Carried as C

-- Rules whose accounts are well formed, a walker that meets them, and a header.
module _ {H : Type 0} (Of : H → List ℕ → Type 0) (rules : H → List ℕ → Account) (tidy : (h : H) (src : List ℕ) → Of h src → Tidy src (rules h src))
    (W : Walker H) (meets : Meets Of rules W) (h : H) where
  -- A source of that header, and a run whose accepted pieces carry its bytes.
  module _ (src : List ℕ) (of : Of h src) (cs : List Call) (honest : Honest W src (W.start h) cs) where
    doing : Does W src (W.start h) (rules h src)
    doing = meets_does Of rules W meets h src of

    doing_on : Does W src (run W (W.start h) cs) (passed (bytes W (W.start h) cs) (rules h src))
    doing_on = does_run W cs (W.start h) (rules h src) doing honest

    -- What has been committed is what the rules commit in the bytes taken,
    pub committed-within : committed W (W.start h) cs ≡ records_within (bytes W (W.start h) cs) (rules h src)
    committed-within = S.within W (tidy h src of) (W.start h) doing cs honest

    -- and with what they commit behind those bytes it is their whole list.
    pub committed_begins : committed W (W.start h) cs ++ records_in (passed (bytes W (W.start h) cs) (rules h src)) ≡ records_in (rules h src)
    committed_begins = S.begins W (tidy h src of) (W.start h) doing cs honest

    -- A further call commits what the rules say at the last byte that it takes; one that is not taken commits nothing.
    pub last_byte_commits : (c : Call) → HonestCall W src (run W (W.start h) cs) c
        → committed_in (W.feed (run W (W.start h) cs) c).0
        ≡ when takes (W.request (run W (W.start h) cs)) c then committed_in (says_at (bytes W (W.start h) cs + length c.piece) (rules h src)) else []
    last_byte_commits = S.last_byte W (tidy h src of) (W.start h) doing cs honest

    -- A run that has taken all that it is asked for, as far as the source has it, has the whole list and the rules' own ending.
    pub whole_run : Past src (W.request (run W (W.start h) cs)) → Whole W (rules h src) (W.start h) cs
    whole_run = S.whole W (tidy h src of) (W.start h) doing cs honest

    -- So has a run whose end of input is answered as whole.
    pub told-whole : W.end_of_input (run W (W.start h) cs) ≡ Ok tt → Whole W (rules h src) (W.start h) cs
    told-whole = S.told-whole W (tidy h src of) (W.start h) doing cs honest

    -- A call that is not taken is refused for what it does not fit,
    pub refused_for : (c : Call) → takes (W.request (run W (W.start h) cs)) c ≡ false
        → (W.feed (run W (W.start h) cs) c).0 ≡ Err (refusal (W.request (run W (W.start h) cs)) c)
    refused_for = R.refuses W (run W (W.start h) cs) _ doing_on

    -- and changes nothing that can be seen: without it and behind it, every list of calls hears the same.
    pub refused_unseen : (c : Call) → takes (W.request (run W (W.start h) cs)) c ≡ false → (ds : List Call) → Honest W src (run W (W.start h) cs) ds
        → Alike W W (run W (W.start h) cs) (W.feed (run W (W.start h) cs) c).1 ds
    refused_unseen = R.unseen W (run W (W.start h) cs) _ doing_on

    -- Behind a fault every call, whatever it brings, is answered by that fault.
    pub fault_repeats : (f : Fault) → W.request (run W (W.start h) cs) ≡ broken f → (ds : List Call) → Repeats W f (run W (run W (W.start h) cs) ds)
    fault_repeats f = R.repeats W src f (run W (W.start h) cs) _ doing_on

    -- No run takes more calls, or more bytes, than the rules hold.
    pub bounded : Bounded W (rules h src) (W.start h) cs
    bounded = B.bounded W cs (W.start h) (tidy h src of) doing honest

  -- What has been committed begins the rules' list of every source that agrees with the bytes taken so far.
  pub every_source : (cs : List Call) (src : List ℕ) → Of h src → Honest W src (W.start h) cs → Front (committed W (W.start h) cs) (records_in (rules h src))
  every_source cs src of = S.front W (tidy h src of) (W.start h) (meets_does Of rules W meets h src of) cs

  -- Two such sources have the same records in the bytes taken.
  pub same_front : (cs : List Call) (src src' : List ℕ) → Of h src → Of h src' → Honest W src (W.start h) cs → Honest W src' (W.start h) cs
      → records_within (bytes W (W.start h) cs) (rules h src) ≡ records_within (bytes W (W.start h) cs) (rules h src')
  same_front cs src src' of of' honest honest' = sym (committed-within src of cs honest) ∙ committed-within src' of' cs honest'

  -- Two runs over one source, however each is cut and whatever is refused on the way:
  module _ (src : List ℕ) (of : Of h src) (cs ds : List Call) (honest : Honest W src (W.start h) cs) (honest' : Honest W src (W.start h) ds) where
    -- what one has committed begins what the other has,
    pub one_begins_other : Front (committed W (W.start h) cs) (committed W (W.start h) ds) ⊎ Front (committed W (W.start h) ds) (committed W (W.start h) cs)
    one_begins_other = S.either_way W (tidy h src of) (W.start h) (meets_does Of rules W meets h src of) cs ds honest honest'

    -- the more bytes taken the further,
    pub more_bytes : bytes W (W.start h) cs ≤ bytes W (W.start h) ds → Front (committed W (W.start h) cs) (committed W (W.start h) ds)
    more_bytes = S.further W (tidy h src of) (W.start h) (meets_does Of rules W meets h src of) cs ds honest honest'

    -- and as many bytes, the same.
    pub same_bytes : bytes W (W.start h) cs ≡ bytes W (W.start h) ds → committed W (W.start h) cs ≡ committed W (W.start h) ds
    same_bytes = S.as_far W (tidy h src of) (W.start h) (meets_does Of rules W meets h src of) cs ds honest honest'

-- Two walkers that meet the same rules ask and answer alike, call by call, ends of input included.
pub unique : {H : Type 0} (Of : H → List ℕ → Type 0) (rules : H → List ℕ → Account) (W X : Walker H) → Meets Of rules W → Meets Of rules X
    → (h : H) (src : List ℕ) → Of h src → (cs : List Call) → Honest W src (W.start h) cs → Alike W X (W.start h) (X.start h) cs
unique Of rules W X meets meets' h src of cs =
    U.alike W X cs (W.start h) (X.start h) (rules h src) (meets_does Of rules W meets h src of) (meets_does Of rules X meets' h src of)

-- A walker that does as another one in every state with an invariant, which its calls keep, meets the same rules.
pub carried_over : {H : Type 0} (Of : H → List ℕ → Type 0) (rules : H → List ℕ → Account) (W : Walker H) → Meets Of rules W
    → (request : W.State → Asked) (feed : W.State → Call → Answer × W.State) (end_of_input : W.State → Ended)
    → (Inv : W.State → Type 0) → C.SameWhere W request feed end_of_input Inv → ((h : H) (src : List ℕ) → Of h src → Inv (W.start h))
    → Meets Of rules (C.instead W request feed end_of_input)
carried_over Of rules W meets request feed end_of_input Inv same begins = C.meets_over W request feed end_of_input same Of rules begins meets
