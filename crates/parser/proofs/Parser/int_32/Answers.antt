use Rattle.rules.specs.Reading as R
use Rattle.parser.specs.Stands.{int_below}
use Rattle.parser.proofs.Parser.int_32.Goals as goal

pub returns-clause-runs : goal.returns-clause-runs
unfolding R.int_field int_below
returns-clause-runs c = c.int_field.ensures.runs
