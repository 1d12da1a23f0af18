-- `pieces::attribute::put_range` meets its contract.
-- Assumes nothing.
use mathlib.Core.Path.{refl}
use Rattle.output.proofs.Words.{first, next, last}
use Rattle.pieces.proofs.attribute.put_range.Goals as goal

pub returns : goal.returns
returns c = last (next (next (next (next (first refl c.put.ensures) c.put_integer.ensures) c.put-2.ensures) c.put_integer-2.ensures) c.put-3.ensures)
