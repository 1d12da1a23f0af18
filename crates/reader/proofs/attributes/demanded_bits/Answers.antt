-- `reader::attributes::demanded_bits` meets its contract.
-- Assumes nothing.
use Rattle.std.proofs.Common.{refl, ap, ◌∙◌}
use Rattle.rules.specs.Reading as R
use Rattle.parser.specs.Stands.{world}
use Rattle.parser.proofs.Steps.{then, seen, no, refuses}
use Rattle.reader.proofs.attributes.demanded_bits.Goals as goal

pub returns-clause-runs : goal.returns-clause-runs
unfolding R.demanded_bits world
returns-clause-runs c =
    then _ _ _ _ _ _ _ _ _ c.in_ok-expect.ensures.runs
    (then _ _ _ _ _ _ _ _ _ c.in_ok-t.ensures.runs
    (seen _ _ _ _ _ _ _ (c.all_bits.ensures ∙ ap R.all_bits c.letters.ensures)
    (no _ _ _ _ _ _ _ c.if-all_bits.false (refuses _ _ _ _ _ refl refl))))
