-- `reader::attributes::root_attribute` meets its contract.
-- Assumes nothing.
use Rattle.rules.specs.Reading as R
use Rattle.parser.specs.Stands.{world}
use Rattle.parser.proofs.Steps.{then, seen}
use Rattle.reader.specs.Roots.{root_attribute_inner}
use Rattle.reader.proofs.attributes.root_attribute.Goals as goal

pub returns-clause-runs : goal.returns-clause-runs
unfolding R.root_attribute root_attribute_inner world
returns-clause-runs c =
    then _ _ _ _ _ _ _ _ _ c.in_ok-expect.ensures.runs
    (then _ _ _ _ _ _ _ _ _ c.in_ok-t.ensures.runs
    (seen _ _ _ _ _ _ _ c.keyword_at-k.ensures c.root_attribute_inner.ensures.runs))
