-- `reader::statements::statement_from` meets its contract.
-- Assumes nothing.
use Rattle.std.proofs.Common.{refl, None}
use Rattle.rules.specs.Reading as R
use Rattle.reader.proofs.Looks.{by_condition}
use Rattle.reader.proofs.statements.statement_from.Goals as goal

pub returns-in_default-clause-runs : goal.returns-in_default-clause-runs
unfolding R.keyword_at
returns-in_default-clause-runs c = rw c.in_default.is (by_condition _ _ _ _ _ None refl refl c.condition_by.ensures.runs)
