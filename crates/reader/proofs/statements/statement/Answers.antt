-- `reader::statements::statement` meets its contract.
-- Assumes nothing.
use Rattle.std.proofs.Common.{refl, rules}
use Rattle.rules.specs.Reading as R
use Rattle.parser.specs.Stands.{world}
use Rattle.parser.proofs.Steps.{then, stops, seen}
use Rattle.reader.specs.Roots.{statement_by}
use Rattle.reader.proofs.Looks.{held}
use Rattle.reader.proofs.statements.statement.Goals as goal

pub returns-in_err-ahead-clause-runs : goal.returns-in_err-ahead-clause-runs
unfolding R.statement statement_by world
returns-in_err-ahead-clause-runs c =
    held _ _ _ _ _ c.hold.ensures.runs
    (stops _ _ _ _ _ _ _ _ (search rules) c.in_err-ahead.ensures.runs)

pub returns-clause-runs : goal.returns-clause-runs
unfolding R.statement statement_by world
returns-clause-runs c =
    held _ _ _ _ _ c.hold.ensures.runs
    (then _ _ _ _ _ _ _ _ _ c.in_ok-ahead.ensures.runs
    (seen _ _ _ _ _ _ _ refl
    (c.statement_from.ensures.runs)))
