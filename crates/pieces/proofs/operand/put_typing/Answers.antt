-- `pieces::operand::put_typing` meets its contract.
-- Assumes nothing.
use native.Mathlib.Omega.{arith}
use Rattle.output.proofs.Words.{first, next, last, writes_as, writes_none}
use Rattle.pieces.proofs.Wholes.{typing_none, typing_pieces}
use Rattle.pieces.proofs.operand.put_typing.Goals as goal

pub returns-then-width-ne0 : goal.returns-then-width-ne0
returns-then-width-ne0 c = last (next (first (typing_pieces _ c.if-width-ne0.true) c.put.ensures) c.put_number.ensures)

pub returns-else-width-ne0 : goal.returns-else-width-ne0
returns-else-width-ne0 c = writes_as (typing_none _ (omega (arith, c.if-width-ne0.false))) (writes_none _)
