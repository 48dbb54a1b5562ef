-- `next_of` meets its contract: an entry is read, and its object is looked at.
use Prim.Native.Nat.{◌-◌}
use mathlib.Core.Path.{◌≡◌, sym, ap, ◌∙◌}
use native.Mathlib.Omega.{arith}
use Rattle.std.proofs.lemmas.Result.{err_from_is_err_and}
use Rattle.account.specs.Statement.{part}
use Rattle.rules.specs.Entry.{leads, entry_in}
use Rattle.rules.specs.PlainList.{stop}
use Rattle.survey.specs.Counting.{counted}
use Rattle.survey.proofs.Onward.{leads-told, refused-told, leads-inside, refused-inside, entry_leads, entry_refused, counted-object}
use Rattle.survey.proofs.source.Source.next_of.Goals as goal

pub overflow_add-c : goal.overflow_add-c
overflow_add-c c =
    let r = refused-inside c.args.self.now.header c.args.self.now.bytes.now c.args.end c.args.c c.requires.0 c.requires.1 c.in-Err.n (refused-told _ _ c.in-Err.ensures) in
    omega (arith, r.1, c.requires.1)

pub overflow_sub-c : goal.overflow_sub-c
overflow_sub-c c =
    let r = refused-inside c.args.self.now.header c.args.self.now.bytes.now c.args.end c.args.c c.requires.0 c.requires.1 c.in-Err.n (refused-told _ _ c.in-Err.ensures) in
    omega (arith, r.0)

pub overflow_add-result : goal.overflow_add-result
overflow_add-result c =
    let is_leading : entry_in c.args.c.last.handle c.args.c.last.location (part c.args.self.now.bytes.now c.args.c.at (c.args.end - c.args.c.at)) ≡ leads c.in-Ok.entry.bytes c.in-Ok.entry.to.handle c.in-Ok.entry.to.location
    = leads-told _ _ c.in-Ok.ensures in
    let b = leads-inside c.args.self.now.header c.args.self.now.bytes.now c.args.end c.args.c c.requires.0 c.requires.1 _ _ _ is_leading in
    omega (arith, b.1)

pub returns-in-Err-clause-goes : goal.returns-in-Err-clause-goes
returns-in-Err-clause-goes c =
    λ rest. ap counted (entry_refused c.args.self.now.header c.args.self.now.bytes.now c.args.end c.args.c c.requires.0 c.requires.1 rest c.in-Err.n (refused-told _ _ c.in-Err.ensures)
    ∙ ap stop (sym c.broken.ensures))

pub returns-in_err-object_at-in-Ok-clause-goes : goal.returns-in_err-object_at-in-Ok-clause-goes
returns-in_err-object_at-in-Ok-clause-goes c =
    let is_leading : entry_in c.args.c.last.handle c.args.c.last.location (part c.args.self.now.bytes.now c.args.c.at (c.args.end - c.args.c.at)) ≡ leads c.in-Ok.entry.bytes c.in-Ok.entry.to.handle c.in-Ok.entry.to.location
    = leads-told _ _ c.in-Ok.ensures in
    let b = leads-inside c.args.self.now.header c.args.self.now.bytes.now c.args.end c.args.c c.requires.0 c.requires.1 _ _ _ is_leading in
    let p = err_from_is_err_and c.from_residual.result c.from_residual.ensures.1 in
    λ rest. rw (p.1, p.2) (ap counted (entry_leads c.args.self.now.header c.args.self.now.bytes.now c.args.end c.args.c c.requires.0 c.requires.1 rest _ _ _ is_leading b.0 b.1 ∙ c.in_err-object_at-in-Ok.ensures _))

pub returns-in_ok-object_at-in-Ok-clause-goes : goal.returns-in_ok-object_at-in-Ok-clause-goes
returns-in_ok-object_at-in-Ok-clause-goes c =
    let is_leading : entry_in c.args.c.last.handle c.args.c.last.location (part c.args.self.now.bytes.now c.args.c.at (c.args.end - c.args.c.at)) ≡ leads c.in-Ok.entry.bytes c.in-Ok.entry.to.handle c.in-Ok.entry.to.location
    = leads-told _ _ c.in-Ok.ensures in
    let b = leads-inside c.args.self.now.header c.args.self.now.bytes.now c.args.end c.args.c c.requires.0 c.requires.1 _ _ _ is_leading in
    λ rest. ap counted (entry_leads c.args.self.now.header c.args.self.now.bytes.now c.args.end c.args.c c.requires.0 c.requires.1 rest _ _ _ is_leading b.0 b.1 ∙ c.in_ok-object_at-in-Ok.ensures _) ∙ counted-object _ _

pub returns-in_ok-object_at-in-Ok-clause-ahead : goal.returns-in_ok-object_at-in-Ok-clause-ahead
returns-in_ok-object_at-in-Ok-clause-ahead c =
    let is_leading : entry_in c.args.c.last.handle c.args.c.last.location (part c.args.self.now.bytes.now c.args.c.at (c.args.end - c.args.c.at)) ≡ leads c.in-Ok.entry.bytes c.in-Ok.entry.to.handle c.in-Ok.entry.to.location
    = leads-told _ _ c.in-Ok.ensures in
    let b = leads-inside c.args.self.now.header c.args.self.now.bytes.now c.args.end c.args.c c.requires.0 c.requires.1 _ _ _ is_leading in
    (omega (arith, b.0), b.1)
