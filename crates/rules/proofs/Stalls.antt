-- A walk stalls only at the source's end, for the second size word of an object.
use Rattle.std.specs.Prelude.{Ok, None}
use Prim.Native.Nat.{ℕ, ◌+◌, ◌-◌, ◌<◌}
use mathlib.Core.Bool.{true, not}
use mathlib.Core.List.{List}
use mathlib.Core.Path.{◌≡◌, sym, ap, ◌∙◌}
use native.Mathlib.Omega.{arith}
use borrow.Author.Tests.{ltb-true, not-true}
use Rattle.streaming.specs.declared.FlatHeader.{FlatHeader}
use Rattle.streaming.specs.declared.Fault.{Fault}
use Rattle.streaming.proofs.Choose.{and_left, and_right}
use Rattle.account.specs.Account.{demand, broken}
use Rattle.account.proofs.Asking.{demand-same}
use Rattle.rules.specs.Source.{Of}
use Rattle.rules.specs.Object.{is_last, may_start, first_word}
use Rattle.rules.specs.Rules.{ending}
use Rattle.rules.specs.PlainList.{Listing, lacks_second_word}
use Rattle.rules.specs.Stall.{Stall}
use Rattle.rules.proofs.PlainKept.{PlainKept, plain_keeps}
use Rattle.rules.proofs.PlainList.{agree}

-- where a listing ends in a demand, that is a stall
record Stalls (h : FlatHeader) (src : List ℕ) (room : ℕ) (l : Listing) : Type 0 where
  stall : (at left : ℕ) → l.ending ≡ demand at left → Stall h src at left

module _ (h : FlatHeader) (src : List ℕ) (of : Of h src) where
  no_fault : (f : Fault) (at left : ℕ) → broken f ≡ demand at left → Stall h src at left
  no_fault f at left e = let z : ◌≡◌ {A = ℕ} 0 1 = cc in absurd (omega arith)

  no_end : (at left : ℕ) → Ok None ≡ demand at left → Stall h src at left
  no_end at left e = let z : ◌≡◌ {A = ℕ} 0 1 = cc in absurd (omega arith)

  lacking : (location : ℕ) → may_start h location ≡ true → lacks_second_word h src location ≡ true → (at left : ℕ)
      → demand h.length (location + 4 - h.length) ≡ demand at left → Stall h src at left
  unfolding lacks_second_word
  lacking location s f at left e =
      let l : h.length < location + 4 = ltb-true h.length (location + 4) (and_right (not (is_last (first_word src location))) _ f) in
      let d = demand-same e in
      record {
        location = location;
        entered = s;
        goes_on = not-true (is_last (first_word src location)) (and_left _ _ f);
        at_end = omega (arith, of.whole, d.0);
        word_end = omega (arith, d.0, d.1);
      }

  stalls_kept : PlainKept h src (Stalls h src)
  stalls_kept = record {
    stopped = λ room f. record { stall = no_fault f };
    finishing = λ room. record { stall = no_end };
    stalled = λ room location s f. record { stall = lacking location s f };
    sections = λ room r l k. record { stall = k.stall };
    objects = λ room r l k. record { stall = k.stall };
    wider = λ room more l m k. record { stall = k.stall };
  }

  pub stalls : (at left : ℕ) → ending h src ≡ demand at left → Stall h src at left
  stalls at left e = (plain_keeps h src (Stalls h src) stalls_kept).stall at left (ap (λ l. l.ending) (sym (agree h src of)) ∙ e)
