-- `lines::statement::put_block` meets its contract.
-- Assumes nothing.
use mathlib.Core.Path.{refl}
use Rattle.output.proofs.Words.{first, next, last}
use Rattle.lines.proofs.statement.put_block.Goals as goal

pub returns : goal.returns
returns c = last (next (first refl c.put.ensures) c.put_number.ensures)
