-- `printer::put_items` meets its contract.
-- Assumes nothing.
use Rattle.printer.proofs.Items.{Going}
use Rattle.printer.proofs.put_items.Given as goal

abbrev pub invariant-loop-i : goal.invariant-loop-i
invariant-loop-i l = Going l.source l.items l.count l.rows l.initial.work l.initial.writer l.work l.writer l.i
