-- `items_ok` meets its contract.
-- Assumes nothing.
use mathlib.Core.Path.{refl, sym, ap, ◌∙◌}
use borrow.Author.Rules.{rules}
use Rattle.rules.specs.Rows.{item_at}
use Rattle.rules.specs.WellFormed.{every, item_ok, items_ok}
use Rattle.wellformed.proofs.Along.{all_rows, each_start}
use Rattle.wellformed.proofs.item.items_ok.Goals as goal

pub returns : goal.returns
unfolding items_ok
returns g c =
    let l = c.args.lent.now in
    let S = g.T.Table.words l.statements in
    let O = g.T.Table.words l.operands in
    let A = g.T.Table.words l.attributes in
    all_rows _ _ _ (λ i. item_ok l.text.now S O A (item_at (g.T.Table.words l.items) i)) 0 c.args.n c.all.ensures.ran refl (λ x b t k. search rules)
    ∙ sym (ap every (each_start _ c.args.n))
