-- `reader::operands::operands_behind` meets its contract: the operands that are left are what is left of the rule.
-- Assumes nothing.
use Rattle.std.proofs.Common.{rules, arith, refl, ◌∙◌}
use Rattle.parser.proofs.Leaves.{all_but_operands}
use Rattle.reader.proofs.Commas.{start, next, comma-fails, operand-fails, finish}
use Rattle.reader.proofs.operands.operands_behind.Goals as goal

pub loop-i-init : goal.loop-i-init
loop-i-init c = (start _ _ _, refl)

pub returns-in_err-comma_if-clause-runs : goal.returns-in_err-comma_if-clause-runs
returns-in_err-comma_if-clause-runs c = comma-fails _ _ _ _ _ _ (omega arith) _ c.is_behind-behind.ensures c.loop-i.invariant.0 _ _ (search rules) c.in_err-comma_if.ensures.runs

pub named_or_constant-requires : goal.named_or_constant-requires
named_or_constant-requires c = c.in_ok-comma_if.ensures.runs.ready (c.loop-i.invariant.0.ready c.requires)

pub returns-in_err-named_or_constant-clause-runs : goal.returns-in_err-named_or_constant-clause-runs
returns-in_err-named_or_constant-clause-runs c = operand-fails _ _ _ _ _ _ (omega arith) _ c.is_behind-behind.ensures c.loop-i.invariant.0 _ _ _ (search rules) c.in_ok-comma_if.ensures.runs c.in_err-named_or_constant.ensures.runs

pub loop-i-preserved : goal.loop-i-preserved
loop-i-preserved c = (next _ _ _ _ _ _ (omega arith) _ c.is_behind-behind.ensures c.loop-i.invariant.0 _ c.in_ok-comma_if.ensures.runs c.in_ok-named_or_constant.ensures.runs, c.in_ok-named_or_constant.ensures.leaves ∙ all_but_operands _ _ c.in_ok-comma_if.ensures.leaves ∙ c.loop-i.invariant.1)

pub returns-clause-runs : goal.returns-clause-runs
returns-clause-runs c = finish _ _ _ _ _ (omega arith) c.loop-i.invariant.0

pub returns-in_err-comma_if-clause-leaves : goal.returns-in_err-comma_if-clause-leaves
returns-in_err-comma_if-clause-leaves c = all_but_operands _ _ c.in_err-comma_if.ensures.leaves ∙ c.loop-i.invariant.1

pub returns-in_err-named_or_constant-clause-leaves : goal.returns-in_err-named_or_constant-clause-leaves
returns-in_err-named_or_constant-clause-leaves c = c.in_err-named_or_constant.ensures.leaves ∙ all_but_operands _ _ c.in_ok-comma_if.ensures.leaves ∙ c.loop-i.invariant.1

pub returns-clause-leaves : goal.returns-clause-leaves
returns-clause-leaves c = c.loop-i.invariant.1
