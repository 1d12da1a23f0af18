-- `lines::statement::put_pc` meets its contract.
-- Assumes nothing.
use Rattle.lines.proofs.Lines.{pc_pieces}
use Rattle.output.proofs.Words.{first, next, last}
use Rattle.lines.proofs.statement.put_pc.Goals as goal

pub returns : goal.returns
returns c = last (next (next (first (pc_pieces _ _) c.put.ensures) c.put_pair.ensures) c.put-2.ensures)
