-- `tables::rows::name_at` meets its contract.
-- Assumes nothing.
use Rattle.rules.specs.Rows.{statement_at}
use Rattle.tables.proofs.rows.name_at.Goals as goal

pub returns : goal.returns
unfolding statement_at
returns g c = c.span_at.ensures
