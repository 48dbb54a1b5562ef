-- One input, one outcome: two walkers that follow one account ask and answer alike.
use Prim.Native.Nat.{ℕ}
use mathlib.Core.List.{List, [], ◌∷◌}
use mathlib.Core.Path.{sym, ◌∙◌}
use Rattle.account.specs.Account.{Account}
use Rattle.account.specs.Statement.{Call, after, Walker, Honest}
use Rattle.account.specs.Runs.{AskAlike, Alike}
use Rattle.account.proofs.Does.{Does, asks, answers, does_after}

module _ {H : Type 0} (W X : Walker H) {src : List ℕ} where
  asks_alike : (w : W.State) (x : X.State) (a : Account) → Does W src w a → Does X src x a → AskAlike W X w x
  asks_alike w x a d e =
      record {
        request = (asks W w a d).request ∙ sym (asks X x a e).request;
        end_of_input = (asks W w a d).end_of_input ∙ sym (asks X x a e).end_of_input;
      }

  pub alike : (cs : List Call) (w : W.State) (x : X.State) (a : Account) → Does W src w a → Does X src x a → Honest W src w cs → Alike W X w x cs
  alike [] w x a d e h = asks_alike w x a d e
  alike (c ∷ cs) w x a d e h =
      let k = rw (asks_alike w x a d e).request at h.0 in (
        asks_alike w x a d e,
        answers W w a d c h.0 ∙ sym (answers X x a e c k),
        alike cs (W.feed w c).1 (X.feed x c).1 (after a c) (does_after W w a d c h.0) (does_after X x a e c k) h.1,
      )
