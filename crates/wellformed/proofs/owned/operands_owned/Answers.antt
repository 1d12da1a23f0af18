-- `operands_owned` meets its contract.
-- Assumes nothing.
use mathlib.Core.Path.{sym, ap, ◌∙◌}
use borrow.Author.Rules.{rules}
use Rattle.rules.specs.Rows.{item_at}
use Rattle.rules.specs.Syntax.{flat}
use Rattle.rules.specs.WellFormed.{operand_spans, operands_owned}
use Rattle.wellformed.proofs.Along.{each_start}
use Rattle.wellformed.proofs.Spans.{flat_rows, operands_as, owned_to}
use Rattle.wellformed.proofs.owned.operands_owned.Goals as goal

pub returns : goal.returns
unfolding operands_owned
returns g c =
    let I = g.T.Table.words c.args.items in
    let S = g.T.Table.words c.args.statements in
    owned_to c.args.count (c.reach.ensures (λ i. operand_spans S (item_at I i)) (λ i b r k. search (rules, operands_as)))
    (flat_rows (operand_spans S) (item_at I) 0 _ ∙ sym (ap (flat (operand_spans S)) (each_start (item_at I) c.args.n))) c.eq.ensures
