-- `reader::statements::assignment` meets its contract.
-- Assumes nothing.
use Rattle.std.proofs.Common.{refl, rules}
use Rattle.rules.specs.Reading as R
use Rattle.parser.specs.Stands.{world}
use Rattle.parser.proofs.Steps.{then, stops, seen}
use Rattle.reader.proofs.statements.assignment.Goals as goal

pub returns-in_err-side-clause-runs : goal.returns-in_err-side-clause-runs
unfolding R.assignment world
returns-in_err-side-clause-runs c =
    then _ _ _ _ _ _ _ _ _ c.in_ok-name.ensures.runs
    (then _ _ _ _ _ _ _ _ _ c.in_ok-width.ensures.runs
    (then _ _ _ _ _ _ _ _ _ c.in_ok-expect.ensures.runs
    (seen _ _ _ _ _ _ _ refl
    (stops _ _ _ _ _ _ _ _ (search rules) c.in_err-side.ensures.runs))))

pub returns-in_err-attributes_of-clause-runs : goal.returns-in_err-attributes_of-clause-runs
unfolding R.assignment world
returns-in_err-attributes_of-clause-runs c =
    then _ _ _ _ _ _ _ _ _ c.in_ok-name.ensures.runs
    (then _ _ _ _ _ _ _ _ _ c.in_ok-width.ensures.runs
    (then _ _ _ _ _ _ _ _ _ c.in_ok-expect.ensures.runs
    (seen _ _ _ _ _ _ _ refl
    (then _ _ _ _ _ _ _ _ _ c.in_ok-side.ensures.runs
    (seen _ _ _ _ _ _ _ refl
    (seen _ _ _ _ _ _ _ refl
    (stops _ _ _ _ _ _ _ _ (search rules) c.in_err-attributes_of.ensures.runs)))))))

pub returns-clause-runs : goal.returns-clause-runs
unfolding R.assignment world
returns-clause-runs c =
    then _ _ _ _ _ _ _ _ _ c.in_ok-name.ensures.runs
    (then _ _ _ _ _ _ _ _ _ c.in_ok-width.ensures.runs
    (then _ _ _ _ _ _ _ _ _ c.in_ok-expect.ensures.runs
    (seen _ _ _ _ _ _ _ refl
    (then _ _ _ _ _ _ _ _ _ c.in_ok-side.ensures.runs
    (seen _ _ _ _ _ _ _ refl
    (seen _ _ _ _ _ _ _ refl
    (then _ _ _ _ _ _ _ _ _ c.in_ok-attributes_of.ensures.runs
    (seen _ _ _ _ _ _ _ refl
    (rw (← c.since-operands.ensures, ← c.since-attributes.ensures) c.claim_statement.ensures.runs)))))))))
