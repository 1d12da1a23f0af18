-- `tables::rows::number_at` meets its contract.
-- Assumes nothing.
use Rattle.rules.specs.Rows.{statement_at}
use Rattle.tables.proofs.rows.number_at.Goals as goal

pub returns : goal.returns
unfolding statement_at
returns g c = c.field.ensures
