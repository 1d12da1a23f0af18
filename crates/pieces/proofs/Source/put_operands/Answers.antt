-- `pieces::Source::put_operands` meets its contract.
-- Assumes nothing.
use native.Mathlib.Omega.{arith}
use Rattle.output.proofs.Words.{first, next, last, writes_as, writes_none}
use Rattle.pieces.proofs.Wholes.{no_operands, operands_pieces}
use Rattle.pieces.proofs.Source.put_operands.Goals as goal

pub returns-then-span : goal.returns-then-span
returns-then-span c = last (next (next (first (operands_pieces _ c.args.span c.if-span.true) c.put.ensures) c.put_operand.ensures) c.put_further.ensures)

pub returns-else-span : goal.returns-else-span
returns-else-span c = writes_as (no_operands _ c.args.span (omega (arith, c.if-span.false))) (writes_none _)
