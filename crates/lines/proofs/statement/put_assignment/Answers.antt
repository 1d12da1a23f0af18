-- `lines::statement::put_assignment` meets its contract.
-- Assumes nothing.
use Rattle.lines.proofs.Lines.{said_pieces}
use Rattle.output.proofs.Words.{first, next, last}
use Rattle.lines.proofs.statement.put_assignment.Goals as goal

pub returns : goal.returns
returns c = last (next (next (next (next (next (first (said_pieces _ _ _ _ c.args.row c.requires) c.put_letters.ensures) c.put_typing.ensures) c.put.ensures) c.put_side.ensures) c.put_attributes.ensures) c.put-2.ensures)
