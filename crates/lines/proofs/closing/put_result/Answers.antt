-- `lines::closing::put_result` meets its contract.
-- Assumes nothing.
use Rattle.lines.proofs.Lines.{result_pieces}
use Rattle.output.proofs.Words.{first, next, last}
use Rattle.lines.proofs.closing.put_result.Goals as goal

pub returns : goal.returns
returns c = last (next (next (first (result_pieces _) c.put.ensures) c.put_operand.ensures) c.put-2.ensures)
