-- `reader::items::result_line` meets its contract.
-- Assumes nothing.
use Rattle.std.proofs.Common.{refl}
use Rattle.rules.specs.Reading as R
use Rattle.parser.specs.Stands.{world}
use Rattle.parser.proofs.Steps.{then, seen}
use Rattle.reader.proofs.items.result_line.Goals as goal

pub returns : goal.returns
unfolding R.result world
returns c =
    then _ _ _ _ _ _ _ _ _ c.in_ok-ident.ensures.runs
    (seen _ _ _ _ _ _ _ refl
    (then _ _ _ _ _ _ _ _ _ c.in_ok-operand.ensures.runs
    (seen _ _ _ _ _ _ _ refl
    (rw (← c.since-operands.ensures) c.close_item.ensures))))
