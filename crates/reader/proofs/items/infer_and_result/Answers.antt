-- `reader::items::infer_and_result` meets its contract.
-- Assumes nothing.
use Rattle.std.proofs.Common.{refl, rules}
use Rattle.rules.specs.Reading as R
use Rattle.parser.specs.Stands.{world}
use Rattle.parser.proofs.Steps.{then, stops, seen}
use Rattle.reader.proofs.items.infer_and_result.Goals as goal

pub returns-in_err-infer : goal.returns-in_err-infer
unfolding R.infer_and_result world
returns-in_err-infer c =
    seen _ _ _ _ _ _ _ refl
    (stops _ _ _ _ _ _ _ _ (search rules) c.in_err-infer.ensures)

pub returns-in_err-statements_of : goal.returns-in_err-statements_of
unfolding R.infer_and_result world
returns-in_err-statements_of c =
    seen _ _ _ _ _ _ _ refl
    (then _ _ _ _ _ _ _ _ _ c.in_ok-infer.ensures
    (seen _ _ _ _ _ _ _ refl
    (stops _ _ _ _ _ _ _ _ (search rules) c.in_err-statements_of.ensures.runs)))

pub returns : goal.returns
unfolding R.infer_and_result world
returns c =
    seen _ _ _ _ _ _ _ refl
    (then _ _ _ _ _ _ _ _ _ c.in_ok-infer.ensures
    (seen _ _ _ _ _ _ _ refl
    (then _ _ _ _ _ _ _ _ _ c.in_ok-statements_of.ensures.runs
    (rw (← c.since-attributes.ensures) c.result_line.ensures))))
