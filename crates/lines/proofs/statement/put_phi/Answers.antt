-- `lines::statement::put_phi` meets its contract.
-- Assumes nothing.
use Rattle.lines.proofs.Sides.{phi_pieces}
use Rattle.output.proofs.Words.{first, next, last}
use Rattle.lines.proofs.statement.put_phi.Goals as goal

pub returns : goal.returns
returns c = last (next (next (first (phi_pieces _ _) c.put.ensures) c.put_name.ensures) c.put_further.ensures)
