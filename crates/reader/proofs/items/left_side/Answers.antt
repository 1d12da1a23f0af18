-- `reader::items::left_side` meets its contract.
-- Assumes nothing.
use Rattle.std.proofs.Common.{refl, rules}
use Rattle.rules.specs.Reading as R
use Rattle.parser.specs.Stands.{world}
use Rattle.parser.proofs.Steps.{then, stops, seen}
use Rattle.reader.proofs.items.left_side.Goals as goal

pub returns-in_err-infer : goal.returns-in_err-infer
unfolding R.left_side world
returns-in_err-infer c =
    then _ _ _ _ _ _ _ _ _ c.in_ok-statements_of.ensures.runs
    (seen _ _ _ _ _ _ _ refl
    (seen _ _ _ _ _ _ _ refl
    (stops _ _ _ _ _ _ _ _ (search rules) c.in_err-infer.ensures)))

pub returns : goal.returns
unfolding R.left_side world
returns c =
    then _ _ _ _ _ _ _ _ _ c.in_ok-statements_of.ensures.runs
    (seen _ _ _ _ _ _ _ refl
    (seen _ _ _ _ _ _ _ refl
    (then _ _ _ _ _ _ _ _ _ c.in_ok-infer.ensures
    (seen _ _ _ _ _ _ _ refl
    (seen _ _ _ _ _ _ _ refl
    (rw (← c.since-operands.ensures, ← c.since-attributes.ensures) c.close_item.ensures))))))
