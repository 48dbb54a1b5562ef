-- `section_at` meets its contract: a section that stands shows what each refusal denies.
use Rattle.std.proofs.Common.{arith, refl}
use Rattle.std.proofs.lemmas.Bool.{false_from_ne_true}
use Rattle.form.proofs.Sections.{standing, stands_shows}
use Rattle.form.proofs.section_at.Goals as goal

pub returns-then-s-at : goal.returns-then-s-at
returns-then-s-at c = false_from_ne_true _ (λ e. let t = stands_shows _ _ _ _ _ e in omega (arith, t.counted))

pub returns-then-count-shape : goal.returns-then-count-shape
returns-then-count-shape c = false_from_ne_true _ (λ e. let t = stands_shows _ _ _ _ _ e in omega (arith, t.at_least, t.at_most))

pub returns-then-s-end : goal.returns-then-s-end
returns-then-s-end c = false_from_ne_true _ (λ e. let t = stands_shows _ _ _ _ _ e in let h = rw (← c.u32_at-count.ensures) at t.held in omega arith)

pub returns : goal.returns
returns c =
    let count = c.u32_at-count.ensures in
    record {
      stood = standing _ _ _ _ _ (record { counted = omega arith; at_least = omega (arith, count); at_most = omega (arith, count); held = rw (← count) (omega arith) });
      count = count;
      items = refl;
      end = rw count refl;
      at_most = omega arith;
      within = omega arith;
    }
