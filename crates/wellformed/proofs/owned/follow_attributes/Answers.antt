-- `follow_attributes` meets its contract.
-- Assumes nothing.
use Rattle.rules.specs.WellFormed.{attribute_spans}
use Rattle.rules.specs.Rows.{statement_at}
use Rattle.std.specs.Prelude.{None}
use mathlib.Core.Path.{◌≡◌}
use borrow.Author.Rules.{rules}
use Rattle.wellformed.proofs.Spans.{answer_as, reaches_on, reaches_no_more}
use Rattle.wellformed.proofs.owned.follow_attributes.Goals as goal

pub returns-in_err-own : goal.returns-in_err-own
unfolding attribute_spans statement_at
returns-in_err-own g c =
    let broken : c.follow_statements.result ≡ None = search rules in
    let out : None ≡ c.from_residual.result = search rules in
    answer_as (reaches_no_more _ (answer_as c.follow_statements.ensures broken)) out

pub returns-in_err-behind : goal.returns-in_err-behind
unfolding attribute_spans statement_at
returns-in_err-behind g c =
    let broken : c.follow.result ≡ None = search rules in
    let out : None ≡ c.from_residual-in_err-behind.result = search rules in
    answer_as (reaches_on (answer_as c.follow_statements.ensures c.in_ok-own.was) (reaches_no_more _ (answer_as c.follow.ensures broken))) out

pub returns : goal.returns
unfolding attribute_spans statement_at
returns g c =
    reaches_on (answer_as c.follow_statements.ensures c.in_ok-own.was)
    (reaches_on (answer_as c.follow.ensures c.in_ok-behind.was) c.follow_statements-2.ensures)
