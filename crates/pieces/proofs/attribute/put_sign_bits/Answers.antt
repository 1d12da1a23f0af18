-- `pieces::attribute::put_sign_bits` meets its contract.
-- Assumes nothing.
use mathlib.Core.Path.{refl}
use Rattle.output.proofs.Words.{first, next, last}
use Rattle.pieces.proofs.attribute.put_sign_bits.Goals as goal

pub returns : goal.returns
returns c = last (next (first refl c.put.ensures) c.put_integer.ensures)
