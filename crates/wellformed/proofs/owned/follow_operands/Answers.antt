-- `follow_operands` meets its contract.
-- Assumes nothing.
use Rattle.rules.specs.WellFormed.{operand_spans}
use Rattle.rules.specs.Rows.{statement_at}
use Rattle.std.specs.Prelude.{None}
use mathlib.Core.Path.{◌≡◌}
use borrow.Author.Rules.{rules}
use Rattle.wellformed.proofs.Spans.{answer_as, reaches_on, reaches_no_more}
use Rattle.wellformed.proofs.owned.follow_operands.Goals as goal

pub returns-in_err-own : goal.returns-in_err-own
unfolding operand_spans statement_at
returns-in_err-own g c =
    let broken : c.follow_statements.result ≡ None = search rules in
    let out : None ≡ c.from_residual.result = search rules in
    answer_as (reaches_no_more _ (answer_as c.follow_statements.ensures broken)) out

pub returns : goal.returns
unfolding operand_spans statement_at
returns g c = reaches_on (answer_as c.follow_statements.ensures c.in_ok-own.was) c.follow.ensures
