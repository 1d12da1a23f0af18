-- By what the search says of a place.
-- Assumes nothing.
use mathlib.Core.Path.{ap, ◌∙◌}
use Rattle.instructions.specs.Number.{instruction_number}
use Rattle.instructions.proofs.Candidates.{missed, found, found-below}
use Rattle.instructions.proofs.search.instruction.Goals as goal

pub returns-in_err-place : goal.returns-in_err-place
returns-in_err-place c = ap instruction_number c.from_residual.ensures ∙ missed c.args.w.now c.place.ensures c.in_err-place.was

pub invariant_of-result : goal.invariant_of-result
invariant_of-result c = record { in_table = found-below c.args.w.now c.place.ensures c.in_ok-place.was }

pub returns : goal.returns
returns c = found c.args.w.now c.place.ensures c.in_ok-place.was
