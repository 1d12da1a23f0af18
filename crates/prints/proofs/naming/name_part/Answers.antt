-- `prints::naming::name_part` meets its contract.
-- Assumes nothing.
use mathlib.Core.Path.{ap, ◌∙◌}
use native.Mathlib.Omega.{arith}
use Rattle.laws.proofs.Tests.{said_not, said_not_not}
use Rattle.rules.specs.WellFormed.{is_assignment}
use Rattle.printable.proofs.Printable.{counts_small}
use Rattle.prints.proofs.Names as names
use Rattle.prints.proofs.naming.name_part.Goals as goal

pub returns-then-not-well_formed : goal.returns-then-not-well_formed
returns-then-not-well_formed c = names.ill_formed _ _ _ _ _ _ _ (said_not c.well_formed-2.ensures c.if-not-well_formed.true-raw)

pub returns-then-statement_count-row : goal.returns-then-statement_count-row
returns-then-statement_count-row c = names.uncounted _ _ _ _ _ _ _ (omega arith)

pub overflow_cast-i : goal.overflow_cast-i
overflow_cast-i c = let small = counts_small _ _ _ _ _ _ (said_not_not c.well_formed-2.ensures c.if-not-well_formed.false-raw) in omega (arith, small.statements)

pub returns-then-not-is_assignment : goal.returns-then-not-is_assignment
returns-then-not-is_assignment c = names.unassigned _ _ _ _ _ _ _ (said_not (c.is_assignment.ensures ∙ ap is_assignment c.code_at.ensures) c.if-not-is_assignment.true-raw)

pub returns : goal.returns
returns c = c.name_at.ensures ∙ names.assigned _ _ _ _ _ _ _ (said_not_not c.well_formed-2.ensures c.if-not-well_formed.false-raw) (omega arith) (said_not_not (c.is_assignment.ensures ∙ ap is_assignment c.code_at.ensures) c.if-not-is_assignment.false-raw)
