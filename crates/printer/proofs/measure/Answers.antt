-- `printer::measure` meets its contract.
-- Assumes nothing.
use Rattle.printer.proofs.Items.{measured}
use Rattle.printer.proofs.measure.Goals as goal

pub put_items-requires : goal.put_items-requires
put_items-requires c = c.requires

pub returns : goal.returns
returns c = measured c.args.out.now c.put_items.ensures
