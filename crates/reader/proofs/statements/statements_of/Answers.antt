-- `reader::statements::statements_of` meets its contract.
-- Assumes nothing.
use Rattle.std.proofs.Common.{rules, refl, ◌∙◌}
use Rattle.parser.proofs.Leaves.{items_of_all}
use Rattle.reader.proofs.Loops.{none_yet, turn, over, fails, blind, falls, statements_loop}
use Rattle.reader.proofs.statements.statements_of.Goals as goal

pub loop-p-init : goal.loop-p-init
loop-p-init c = (none_yet _ _, refl)

pub statement-requires : goal.statement-requires
statement-requires c = c.in_ok-statement_ahead.ensures.runs.ready (c.loop-p.invariant.0.ready c.requires)

pub loop-p-smaller : goal.loop-p-smaller
loop-p-smaller c = falls statements_loop _ _ _ _ c.in_ok-statement_ahead.ensures.runs c.in_ok-statement.ensures.runs

pub loop-p-preserved : goal.loop-p-preserved
loop-p-preserved c = (turn statements_loop _ _ _ _ _ c.if-branch.true c.loop-p.invariant.0 c.in_ok-statement_ahead.ensures.runs c.in_ok-statement.ensures.runs, c.in_ok-statement.ensures.leaves ∙ items_of_all _ _ c.in_ok-statement_ahead.ensures.leaves ∙ c.loop-p.invariant.1)

pub returns-in_err-statement_ahead-clause-runs : goal.returns-in_err-statement_ahead-clause-runs
returns-in_err-statement_ahead-clause-runs c = blind statements_loop _ _ _ _ _ (search rules) c.loop-p.invariant.0 c.in_err-statement_ahead.ensures.runs

pub returns-in_err-statement-clause-runs : goal.returns-in_err-statement-clause-runs
returns-in_err-statement-clause-runs c = fails statements_loop _ _ _ _ _ _ _ c.if-branch.true (search rules) c.loop-p.invariant.0 c.in_ok-statement_ahead.ensures.runs c.in_err-statement.ensures.runs

pub returns-clause-runs : goal.returns-clause-runs
returns-clause-runs c = over statements_loop _ _ _ _ c.if-branch.false c.loop-p.invariant.0 c.in_ok-statement_ahead.ensures.runs

pub returns-in_err-statement_ahead-clause-leaves : goal.returns-in_err-statement_ahead-clause-leaves
returns-in_err-statement_ahead-clause-leaves c = items_of_all _ _ c.in_err-statement_ahead.ensures.leaves ∙ c.loop-p.invariant.1

pub returns-in_err-statement-clause-leaves : goal.returns-in_err-statement-clause-leaves
returns-in_err-statement-clause-leaves c = c.in_err-statement.ensures.leaves ∙ items_of_all _ _ c.in_ok-statement_ahead.ensures.leaves ∙ c.loop-p.invariant.1

pub returns-clause-leaves : goal.returns-clause-leaves
returns-clause-leaves c = items_of_all _ _ c.in_ok-statement_ahead.ensures.leaves ∙ c.loop-p.invariant.1
