-- `reader::items::cand` meets its contract.
-- Assumes nothing.
use Rattle.std.proofs.Common.{refl, rules}
use Rattle.rules.specs.Reading as R
use Rattle.parser.specs.Stands.{world}
use Rattle.parser.proofs.Steps.{then, stops, seen}
use Rattle.reader.proofs.items.cand.Goals as goal

pub returns-in_err-operand-2 : goal.returns-in_err-operand-2
unfolding R.cand world
returns-in_err-operand-2 c =
    then _ _ _ _ _ _ _ _ _ c.in_ok-ident.ensures.runs
    (seen _ _ _ _ _ _ _ refl
    (then _ _ _ _ _ _ _ _ _ c.in_ok-operand.ensures.runs
    (stops _ _ _ _ _ _ _ _ (search rules) c.in_err-operand-2.ensures.runs)))

pub returns-in_err-root_attributes : goal.returns-in_err-root_attributes
unfolding R.cand world
returns-in_err-root_attributes c =
    then _ _ _ _ _ _ _ _ _ c.in_ok-ident.ensures.runs
    (seen _ _ _ _ _ _ _ refl
    (then _ _ _ _ _ _ _ _ _ c.in_ok-operand.ensures.runs
    (then _ _ _ _ _ _ _ _ _ c.in_ok-operand-2.ensures.runs
    (seen _ _ _ _ _ _ _ refl
    (seen _ _ _ _ _ _ _ refl
    (stops _ _ _ _ _ _ _ _ (search rules) c.in_err-root_attributes.ensures.runs))))))

pub returns : goal.returns
unfolding R.cand world
returns c =
    then _ _ _ _ _ _ _ _ _ c.in_ok-ident.ensures.runs
    (seen _ _ _ _ _ _ _ refl
    (then _ _ _ _ _ _ _ _ _ c.in_ok-operand.ensures.runs
    (then _ _ _ _ _ _ _ _ _ c.in_ok-operand-2.ensures.runs
    (seen _ _ _ _ _ _ _ refl
    (seen _ _ _ _ _ _ _ refl
    (then _ _ _ _ _ _ _ _ _ c.in_ok-root_attributes.ensures.runs
    (seen _ _ _ _ _ _ _ refl
    (rw (← c.since-operands.ensures, ← c.since-attributes.ensures) c.close_item.ensures))))))))
