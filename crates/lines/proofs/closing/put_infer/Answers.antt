-- `lines::closing::put_infer` meets its contract.
-- Assumes nothing.
use Rattle.lines.proofs.Lines.{infer_pieces}
use Rattle.output.proofs.Words.{first, next, last}
use Rattle.lines.proofs.closing.put_infer.Goals as goal

pub returns : goal.returns
returns c = last (next (next (next (first (infer_pieces _ _) c.put.ensures) c.put_name.ensures) c.put_root_attributes.ensures) c.put-2.ensures)
