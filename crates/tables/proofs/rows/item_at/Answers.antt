-- `tables::rows::item_at` meets its contract.
-- Assumes nothing.
use Rattle.rules.specs.Rows.{item_at}
use Rattle.tables.proofs.rows.item_at.Goals as goal

pub returns : goal.returns
unfolding item_at
returns g c = cc
