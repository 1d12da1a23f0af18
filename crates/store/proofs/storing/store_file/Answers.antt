-- `store::storing::store_file` meets its contract.
-- Assumes nothing.
use Rattle.store.proofs.Pieces.{measured_short, measured_written}
use Rattle.store.proofs.storing.store_file.Goals as goal

pub returns-then-output-n : goal.returns-then-output-n
returns-then-output-n c = measured_short _ c.put_file-n.ensures c.if-output-n.true

pub returns : goal.returns
returns c = measured_written _ c.put_file-n.ensures c.if-output-n.false c.put_file.ensures
