-- `pieces::Source::put_pattern` meets its contract.
-- Assumes nothing.
use mathlib.Core.List.{append-nil}
use Rattle.output.proofs.Words.{first, next, last}
use Rattle.pieces.proofs.Source.put_pattern.Goals as goal

pub returns : goal.returns
returns c = last (next (first (simp append-nil) c.put.ensures) c.put_letters.ensures)
