-- `pieces::operand::put_constant` meets its contract.
-- Assumes nothing.
use Rattle.pieces.proofs.Wholes.{constant_pieces}
use Rattle.output.proofs.Words.{first, next, last}
use Rattle.pieces.proofs.operand.put_constant.Goals as goal

pub returns : goal.returns
returns c = last (next (first (constant_pieces _ _) c.put_integer.ensures) c.put_typing.ensures)
