-- `reader::attributes::root_attributes` meets its contract.
-- Assumes nothing.
use Rattle.std.proofs.Common.{rules, refl, ◌∙◌}
use Rattle.parser.proofs.Leaves.{all_but_attributes}
use Rattle.reader.proofs.Loops.{none_yet, turn, over, fails, blind, falls, root_attributes_loop}
use Rattle.reader.proofs.attributes.root_attributes.Goals as goal

pub loop-p-init : goal.loop-p-init
loop-p-init c = (none_yet _ _, refl)

pub loop-p-smaller : goal.loop-p-smaller
loop-p-smaller c = falls root_attributes_loop _ _ _ _ c.in_ok-open_paren_ahead.ensures.runs c.in_ok-root_attribute.ensures.runs

pub loop-p-preserved : goal.loop-p-preserved
loop-p-preserved c = (turn root_attributes_loop _ _ _ _ _ c.if-branch.true c.loop-p.invariant.0 c.in_ok-open_paren_ahead.ensures.runs c.in_ok-root_attribute.ensures.runs, c.in_ok-root_attribute.ensures.leaves ∙ all_but_attributes _ _ c.in_ok-open_paren_ahead.ensures.leaves ∙ c.loop-p.invariant.1)

pub returns-in_err-open_paren_ahead-clause-runs : goal.returns-in_err-open_paren_ahead-clause-runs
returns-in_err-open_paren_ahead-clause-runs c = blind root_attributes_loop _ _ _ _ _ (search rules) c.loop-p.invariant.0 c.in_err-open_paren_ahead.ensures.runs

pub returns-in_err-root_attribute-clause-runs : goal.returns-in_err-root_attribute-clause-runs
returns-in_err-root_attribute-clause-runs c = fails root_attributes_loop _ _ _ _ _ _ _ c.if-branch.true (search rules) c.loop-p.invariant.0 c.in_ok-open_paren_ahead.ensures.runs c.in_err-root_attribute.ensures.runs

pub returns-clause-runs : goal.returns-clause-runs
returns-clause-runs c = over root_attributes_loop _ _ _ _ c.if-branch.false c.loop-p.invariant.0 c.in_ok-open_paren_ahead.ensures.runs

pub returns-in_err-open_paren_ahead-clause-leaves : goal.returns-in_err-open_paren_ahead-clause-leaves
returns-in_err-open_paren_ahead-clause-leaves c = all_but_attributes _ _ c.in_err-open_paren_ahead.ensures.leaves ∙ c.loop-p.invariant.1

pub returns-in_err-root_attribute-clause-leaves : goal.returns-in_err-root_attribute-clause-leaves
returns-in_err-root_attribute-clause-leaves c = c.in_err-root_attribute.ensures.leaves ∙ all_but_attributes _ _ c.in_ok-open_paren_ahead.ensures.leaves ∙ c.loop-p.invariant.1

pub returns-clause-leaves : goal.returns-clause-leaves
returns-clause-leaves c = all_but_attributes _ _ c.in_ok-open_paren_ahead.ensures.leaves ∙ c.loop-p.invariant.1
