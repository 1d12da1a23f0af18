-- `reader::items::replacement` meets its contract.
-- Assumes nothing.
use Rattle.std.proofs.Common.{refl}
use Rattle.rules.specs.Reading as R
use Rattle.parser.specs.Stands.{world}
use Rattle.parser.proofs.Steps.{then, seen}
use Rattle.reader.proofs.items.replacement.Goals as goal

pub returns : goal.returns
unfolding R.replacement world
returns c =
    then _ _ _ _ _ _ _ _ _ c.in_ok-statements_of.ensures.runs
    (seen _ _ _ _ _ _ _ refl
    (then _ _ _ _ _ _ _ _ _ c.in_ok-k.ensures.runs
    (c.line_by.ensures)))
