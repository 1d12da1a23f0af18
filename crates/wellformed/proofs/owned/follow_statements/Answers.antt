-- `follow_statements` meets its contract.
-- Assumes nothing.
use mathlib.Core.List.{[], ◌∷◌}
use borrow.Author.Rules.{rules}
use Rattle.rules.specs.Rows.{span_at, statement_length}
use Rattle.wellformed.proofs.Spans.{spans_as, span_as, flat_single}
use Rattle.wellformed.proofs.owned.follow_statements.Goals as goal

pub returns : goal.returns
returns g c =
    let a = c.args in
    spans_as (c.reach.ensures (λ i. span_at statement_length (g.T.Table.words a.statements) i a.column ∷ []) (λ i b r k. search (rules, span_as))) (flat_single (λ i. span_at statement_length (g.T.Table.words a.statements) i a.column) a.first _)
