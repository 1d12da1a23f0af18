-- `reader::sides::phi_side` meets its contract.
-- Assumes nothing.
use Rattle.std.proofs.Common.{refl, ◌∙◌, rules}
use Rattle.rules.specs.Reading as R
use Rattle.parser.specs.Stands.{world}
use Rattle.parser.proofs.Steps.{then, stops, seen, gives}
use Rattle.reader.proofs.Blocks.{number-seen}
use Rattle.reader.proofs.sides.phi_side.Goals as goal

pub returns-in_err-further_operands-clause-runs : goal.returns-in_err-further_operands-clause-runs
unfolding R.phi_side world
returns-in_err-further_operands-clause-runs c =
    then _ _ _ _ _ _ _ _ _ c.in_ok-token.ensures.runs
    (then _ _ _ _ _ _ _ _ _ c.in_ok-block.ensures.runs
    (seen _ _ _ _ _ _ _ (c.number_of-n.ensures ∙ number-seen _ _ _ c.in_ok-block.ensures.runs)
    (stops _ _ _ _ _ _ _ _ (search rules) c.in_err-further_operands.ensures.runs)))

pub returns-clause-runs : goal.returns-clause-runs
unfolding R.phi_side world
returns-clause-runs c =
    then _ _ _ _ _ _ _ _ _ c.in_ok-token.ensures.runs
    (then _ _ _ _ _ _ _ _ _ c.in_ok-block.ensures.runs
    (seen _ _ _ _ _ _ _ (c.number_of-n.ensures ∙ number-seen _ _ _ c.in_ok-block.ensures.runs)
    (then _ _ _ _ _ _ _ _ _ c.in_ok-further_operands.ensures.runs
    (gives _ _ _ _ refl))))
