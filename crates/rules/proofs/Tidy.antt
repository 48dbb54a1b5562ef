-- Every account of the rules is well formed.
use Prim.Native.Nat.{ℕ}
use mathlib.Core.List.{List}
use Rattle.streaming.specs.declared.FlatHeader.{FlatHeader}
use Rattle.account.specs.Account.{framing, payload}
use Rattle.account.specs.Asking.{go}
use Rattle.account.specs.Tidy.{Tidy, tidy_over}
use Rattle.account.proofs.Tidying.{tidy_bad, tidy_span, tidy_span_any, tidy_one_by_one, tidy_spell_any}
use Rattle.rules.specs.Rules.{rules}
use Rattle.rules.proofs.Kept.{Kept, rules_keep}

tidy_kept : (src : List ℕ) → Kept src (λ taken a. Tidy src a) (λ at taken t. Tidy src t.rest)
tidy_kept src = record {
  stopped = λ taken f. tidy_over tt;
  failing = λ at taken f. tidy_bad f;
  finishing = λ at. tidy_over tt;
  going = λ at taken a k. k;
  sections = λ r at a e k. k;
  objects = λ r at a e k. k;
  spans = λ at n end taken t e k. tidy_span at n framing t tt λ in_source. k;
  passes = λ at n taken a k. tidy_span_any at n framing (go framing a) tt k;
  pays = λ p at n a k. tidy_span_any at n (payload p) (go (payload p) a) tt k;
  spells = λ at n end taken ws f t l e k. tidy_spell_any at ws f t k;
  goes_one_by_one = λ at n taken t k. tidy_one_by_one at n t λ in_source. k 0;
}

-- for every header and every source
pub rules_tidy : (h : FlatHeader) (src : List ℕ) → Tidy src (rules h src)
rules_tidy h src = rules_keep src _ _ (tidy_kept src) h
