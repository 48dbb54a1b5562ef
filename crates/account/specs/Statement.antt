-- The statement: what it is for any walker to follow the rules of a format, over every list of calls. Nothing here knows the format.
use Rattle.std.specs.Prelude.{ℕ, Bool, true, false, ◌&&◌, List, [], ◌∷◌, ◌≡◌, length, take, drop, ltb, leb, eqb, Ok, Err, Some, None}
use Rattle.streaming.specs.Choose.{when◌then◌else◌}
use Rattle.streaming.specs.declared.StreamError.{StreamError}
use Rattle.streaming.specs.declared.StreamError.TheVariants as error
use Rattle.streaming.specs.Answers.{Asked, Ended, Answer}
use Rattle.account.specs.Account.{Account, ask_of, passed, says_at}

-- ---- calls

-- a piece offered at a place
pub record Call : Type 0 where
  pub offset : ℕ
  pub piece : List ℕ

-- a call is taken that brings a nonempty front of the demand, at its place
abbrev pub takes : Asked → Call → Bool
takes (Ok (Some r)) c = eqb c.offset r.offset && (ltb 0 (length c.piece) && leb (length c.piece) r.len)
takes (Ok None) c = false
takes (Err e) c = false

-- and why another one is not
abbrev pub refusal : Asked → Call → StreamError
refusal (Ok (Some r)) c =
    when eqb c.offset r.offset then error.InvalidFeed r.len (length c.piece) else error.WrongOffset r.offset c.offset
refusal (Ok None) c = error.Finished
refusal (Err e) c = e

-- ---- what an account answers to a call, and what is left of it

unfoldable pub answer_of : Account → Call → Answer
answer_of a c = when takes (ask_of a) c then says_at (length c.piece) a else Err (refusal (ask_of a) c)

unfoldable pub after : Account → Call → Account
after a c = when takes (ask_of a) c then passed (length c.piece) a else a

-- what the end of input says, by what is still asked for
abbrev pub ended_by : Asked → Ended
ended_by (Ok (Some r)) = Err (error.Truncated r.offset r.len)
ended_by (Ok None) = Ok tt
ended_by (Err e) = Err e

-- ---- walkers

-- any walker at all, from headers of any kind
pub record Walker (H : Type 0) : Type 1 where
  pub State : Type 0
  pub start : H → State
  pub request : State → Asked
  pub feed : State → Call → Answer × State
  pub end_of_input : State → Ended

-- n bytes of a source from a place on; fewer where the source ends
abbrev pub part : List ℕ → (at n : ℕ) → List ℕ
part src at n = take n (drop at src)

module _ {H : Type 0} (W : Walker H) where
  -- a piece that is taken has the source's bytes at its place; what is refused may be anything
  abbrev pub HonestCall : (src : List ℕ) → W.State → Call → Type 0
  HonestCall src st c = takes (W.request st) c ≡ true → c.piece ≡ part src c.offset (length c.piece)

  abbrev pub Honest : (src : List ℕ) → W.State → List Call → Type 0
  Honest src st [] = Unit {0}
  Honest src st (c ∷ cs) = HonestCall src st c × Honest src (W.feed st c).1 cs

  -- the walker asks what the account asks, before and after every call
  pub record Asks (st : W.State) (a : Account) : Type 0 where
    pub request : W.request st ≡ ask_of a
    pub end_of_input : W.end_of_input st ≡ ended_by (ask_of a)

  -- and answers what the account says, call after call
  abbrev pub Follows : W.State → Account → List Call → Type 0
  Follows st a [] = Asks st a
  Follows st a (c ∷ cs) = Asks st a × ((W.feed st c).0 ≡ answer_of a c) × Follows (W.feed st c).1 (after a c) cs

-- The statement, over rules that give an account for a header and a whole source of that header.
module _ {H : Type 0} (Of : H → List ℕ → Type 0) (rules : H → List ℕ → Account) where
  unfoldable pub Meets : Walker H → Type 0
  Meets W = (h : H) (src : List ℕ) → Of h src → (cs : List Call) → Honest W src (W.start h) cs → Follows W (W.start h) (rules h src) cs
