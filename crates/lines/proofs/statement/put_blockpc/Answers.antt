-- `lines::statement::put_blockpc` meets its contract.
-- Assumes nothing.
use Rattle.lines.proofs.Lines.{blockpc_pieces}
use Rattle.output.proofs.Words.{first, next, last}
use Rattle.lines.proofs.statement.put_blockpc.Goals as goal

pub returns : goal.returns
returns c = last (next (next (next (next (next (first (blockpc_pieces _ _ _ _) c.put.ensures) c.put_name.ensures) c.put-2.ensures) c.put_number.ensures) c.put_pair.ensures) c.put-3.ensures)
