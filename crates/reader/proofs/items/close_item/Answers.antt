-- `reader::items::close_item` meets its contract.
-- Assumes nothing.
use Rattle.std.proofs.Common.{refl, rules}
use Rattle.rules.specs.Reading as R
use Rattle.parser.specs.Stands.{world}
use Rattle.parser.proofs.Steps.{then, stops, seen}
use Rattle.reader.proofs.Closing.{scope_ends}
use Rattle.reader.proofs.items.close_item.Goals as goal

pub returns-in_err-claim_item : goal.returns-in_err-claim_item
unfolding R.close_item world
returns-in_err-claim_item c =
    seen _ _ _ _ _ _ _ refl
    (seen _ _ _ _ _ _ _ refl
    (stops _ _ _ _ _ _ _ _ (search rules) c.in_err-claim_item.ensures.runs))

pub returns : goal.returns
unfolding R.close_item world
returns c =
    seen _ _ _ _ _ _ _ refl
    (seen _ _ _ _ _ _ _ refl
    (then _ _ _ _ _ _ _ _ _ c.in_ok-claim_item.ensures.runs
    (scope_ends _ _ _ _ c.in_ok-claim_item.ensures.runs c.end_scope.ensures.runs)))
