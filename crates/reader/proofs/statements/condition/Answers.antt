-- `reader::statements::condition` meets its contract.
-- Assumes nothing.
use Rattle.std.proofs.Common.{refl}
use Rattle.rules.specs.Reading as R
use Rattle.parser.specs.Stands.{world}
use Rattle.parser.proofs.Steps.{then, seen}
use Rattle.reader.proofs.statements.condition.Goals as goal

pub returns-clause-runs : goal.returns-clause-runs
unfolding R.condition world
returns-clause-runs c =
    seen _ _ _ _ _ _ _ refl
    (then _ _ _ _ _ _ _ _ _ c.in_ok-operand.ensures.runs
    (then _ _ _ _ _ _ _ _ _ c.in_ok-operand-2.ensures.runs
    (seen _ _ _ _ _ _ _ refl
    (seen _ _ _ _ _ _ _ refl
    (rw (← c.since-operands.ensures, ← c.since-attributes.ensures) c.claim_statement.ensures.runs)))))
