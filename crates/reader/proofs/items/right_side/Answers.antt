-- `reader::items::right_side` meets its contract.
-- Assumes nothing.
use Rattle.std.proofs.Common.{refl}
use Rattle.rules.specs.Reading as R
use Rattle.parser.specs.Stands.{world}
use Rattle.parser.proofs.Steps.{then, seen}
use Rattle.reader.proofs.items.right_side.Goals as goal

pub returns : goal.returns
unfolding R.right_side world
returns c =
    then _ _ _ _ _ _ _ _ _ c.in_ok-statements_of.ensures.runs
    (seen _ _ _ _ _ _ _ refl
    (seen _ _ _ _ _ _ _ refl
    (rw (← c.since-attributes.ensures) c.result_line.ensures)))
