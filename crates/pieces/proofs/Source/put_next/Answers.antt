-- `pieces::Source::put_next` meets its contract.
-- Assumes nothing.
use Rattle.pieces.proofs.Wholes.{next_pieces}
use Rattle.output.proofs.Words.{first, next, last}
use Rattle.pieces.proofs.Source.put_next.Goals as goal

pub returns : goal.returns
returns c = last (next (first (next_pieces _) c.put.ensures) c.put_operand.ensures)
