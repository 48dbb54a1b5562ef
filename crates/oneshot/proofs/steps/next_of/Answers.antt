-- `next_of` meets its contract.
use Prim.Native.Nat.{ℕ, ◌+◌, ◌-◌, ◌<◌, ◌^◌}
use mathlib.Core.List.{List}
use mathlib.Core.Path.{◌≡◌, sym, ◌∙◌}
use native.Mathlib.Omega.{arith}
use lib.ListN.{drop, length-take}
use borrow.Author.Rules.{rules}
use Rattle.std.specs.Prelude.{Result, Ok, Err}
use Rattle.account.specs.Statement.{part}
use Rattle.rules.specs.Entry.{leads}
use Rattle.streaming.specs.declared.ObjectRecord.{ObjectRecord}
use Rattle.oneshot.specs.declared.steps.Cursor.{Cursor}
use Rattle.oneshot.specs.Cursor.{blank, record_at, in_hand, next_entry, visit_of, step_of}
use Rattle.survey.specs.Entries.{entry_read}
use Rattle.survey.specs.declared.entries.Leads.{Leads}
use Rattle.survey.proofs.Onward.{leads-told, refused-told}
use Rattle.oneshot.proofs.Entries.{leads-inside}
use Rattle.oneshot.proofs.steps.next_of.Goals as goal

module _ (src : List ℕ) (c d : Cursor) (hand : d ≡ in_hand src c) (r : Result Leads ℕ) (told : r ≡ entry_read (next_entry src d)) where
  module _ (entry : Leads) (is : r ≡ Ok entry) where
    next : next_entry src d ≡ leads entry.bytes entry.to.handle entry.to.location
    next = leads-told (next_entry src d) entry (sym is ∙ told)

    at-below : d.at < 2 ^ 64 → d.end < 2 ^ 64 → d.at + entry.bytes < 2 ^ 64
    at-below k l =
        omega (arith, leads-inside d.last.handle d.last.location (part src d.at (d.end - d.at)) next, length-take (d.end - d.at) (drop d.at src))

    visits : (o : ObjectRecord) → o ≡ record_at d.r2000 src entry.to.handle entry.to.location
        → record {
          object = o;
          next = record { r2000 = d.r2000; chunk = d.chunk; at = d.at + entry.bytes; end = d.end; last = entry.to };
        } ≡ step_of src c
    unfolding step_of visit_of
    visits o g = rw (← hand, next, ← g)

  stays : (n : ℕ) (o : ObjectRecord) → r ≡ Err n → o ≡ blank → record { object = o; next = d } ≡ step_of src c
  unfolding step_of visit_of
  stays n o is g = let e = refused-told (next_entry src d) n (sym is ∙ told) in rw (← hand, e, ← g)

pub overflow_add-result : goal.overflow_add-result
overflow_add-result c =
    record { fits = at-below c.args.src.now c.args.c c.in_hand-c.result c.in_hand-c.ensures c.entry_at.result c.entry_at.ensures _ c.in-Ok.is (search rules) (search rules) }

pub returns-in-Ok : goal.returns-in-Ok
returns-in-Ok c =
    visits c.args.src.now c.args.c c.in_hand-c.result c.in_hand-c.ensures c.entry_at.result c.entry_at.ensures _ c.in-Ok.is
    c.record_at.result c.record_at.ensures

pub returns-in-Err : goal.returns-in-Err
returns-in-Err c =
    stays c.args.src.now c.args.c c.in_hand-c.result c.in_hand-c.ensures c.entry_at.result c.entry_at.ensures _ c.blank.result c.in-Err.is c.blank.ensures
