-- `locator` meets its contract: the chain finds the first of that number.
use Rattle.std.proofs.Common.{rules, ◌≡◌}
use Rattle.std.specs.Prelude.{take, eqb}
use Rattle.std.specs.List.{find}
use Rattle.std.proofs.lemmas.Iterator.{YieldsList-from_slice, YieldsList-from_take}
use Rattle.std.proofs.lemmas.Iterator.Consumers.{YieldsList-at}
use Rattle.std.proofs.lemmas.Iterator.Search.{find_from_yields_List}
use borrow.Author.Tests.{tests}
use Rattle.rules.specs.Header.{locator_of}
use Rattle.streaming.specs.declared.Locator.{Locator}
use Rattle.header.proofs.Locating.{first_found}
use Rattle.header.proofs.locator.Goals as goal

pub returns : goal.returns
unfolding locator_of
returns c =
    let found : c.copied.result ≡ find (λ (l : Locator). eqb l.number c.args.number) (take c.args.h.count c.args.h.locators) =
    rw c.copied.ensures (find_from_yields_List (λ (l : Locator). eqb l.number c.args.number) _ _ c.find.result c.find.ensures.ran
    (YieldsList-from_take c.args.h.count (YieldsList-at c.take.ensures.source (YieldsList-from_slice c.args.h.locators cc)) c.take.ensures.count)
    (λ x b q k. search (rules, tests)))
    in
    rw (c.unwrap_or.ensures, found) (first_found c.args.number _)
