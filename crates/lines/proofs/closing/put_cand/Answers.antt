-- `lines::closing::put_cand` meets its contract.
-- Assumes nothing.
use Rattle.lines.proofs.Lines.{cand_pieces}
use Rattle.output.proofs.Words.{first, next, last}
use Rattle.lines.proofs.closing.put_cand.Goals as goal

pub returns : goal.returns
returns c = last (next (next (next (first (cand_pieces _ _ _) c.put.ensures) c.put_pair.ensures) c.put_root_attributes.ensures) c.put-2.ensures)
