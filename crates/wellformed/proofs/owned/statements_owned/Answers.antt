-- `statements_owned` meets its contract.
-- Assumes nothing.
use mathlib.Core.List.{[], ◌∷◌}
use mathlib.Core.Path.{sym, ◌∙◌}
use borrow.Author.Rules.{rules}
use Rattle.rules.specs.Rows.{item_at}
use Rattle.rules.specs.WellFormed.{statements_owned}
use Rattle.wellformed.proofs.Along.{each_start}
use Rattle.wellformed.proofs.Spans.{flat_single, statements_as, owned_to}
use Rattle.wellformed.proofs.owned.statements_owned.Goals as goal

pub returns : goal.returns
unfolding statements_owned
returns g c =
    let I = g.T.Table.words c.args.items in
    owned_to c.args.count (c.reach.ensures (λ i. (item_at I i).statements ∷ []) (λ i b r k. search (rules, statements_as)))
    (flat_single (λ i. (item_at I i).statements) 0 _ ∙ sym (each_start _ c.args.n)) c.eq.ensures
