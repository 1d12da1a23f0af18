-- `tables::rows::attribute_at` meets its contract.
-- Assumes nothing.
use Rattle.rules.specs.Rows.{attribute_at}
use Rattle.tables.proofs.rows.attribute_at.Goals as goal

pub returns : goal.returns
unfolding attribute_at
returns g c = cc
