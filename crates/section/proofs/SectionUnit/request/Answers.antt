-- `request` meets its contract: the demand ends behind what is done.
use native.Mathlib.Omega.{arith}
use Rattle.section.specs.Section.{request_section}
use Rattle.section.proofs.Demand.{end_behind}
use Rattle.section.proofs.SectionUnit.request.Goals as goal

pub overflow_sub-result : goal.overflow_sub-result
overflow_sub-result c = omega (arith, end_behind _ c.args.self.fit, c.section_end-end.ensures)

pub returns : goal.returns
unfolding request_section
returns c = rw (← c.section-l.ensures, ← c.section_end-end.ensures)
