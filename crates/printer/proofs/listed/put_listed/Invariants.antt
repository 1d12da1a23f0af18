-- `printer::listed::put_listed` meets its contract.
-- Assumes nothing.
use lib.ListN.{length}
use Rattle.printer.proofs.Walks.{Walking, coming}
use Rattle.printer.proofs.listed.put_listed.Given as goal

abbrev pub invariant-loop-row : goal.invariant-loop-row
invariant-loop-row l = Walking l.source l.rows l.initial.work l.initial.walk.depth l.initial.writer l.work l.walk.depth l.writer

abbrev pub decreases-loop-row : goal.decreases-loop-row
decreases-loop-row l = length (coming l.source l.rows l.work l.walk.depth).listed
