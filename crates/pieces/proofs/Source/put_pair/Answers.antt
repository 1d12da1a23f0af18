-- `pieces::Source::put_pair` meets its contract.
-- Assumes nothing.
use Rattle.pieces.proofs.Wholes.{pair_pieces}
use Rattle.output.proofs.Words.{first, next, last}
use Rattle.pieces.proofs.Source.put_pair.Goals as goal

pub returns : goal.returns
returns c = last (next (next (first (pair_pieces _ _) c.put_operand.ensures) c.put.ensures) c.put_operand-2.ensures)
