-- `pieces::Source::put_letters` meets its contract.
-- Assumes nothing.
use mathlib.Core.Path.{sym}
use Rattle.output.proofs.Words.{writes_as}
use Rattle.pieces.proofs.Source.put_letters.Goals as goal

pub returns : goal.returns
returns c = writes_as (sym c.letters.ensures) c.put.ensures
