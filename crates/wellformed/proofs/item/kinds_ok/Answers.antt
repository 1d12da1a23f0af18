-- `kinds_ok` meets its contract.
-- Assumes nothing.
use mathlib.Core.Path.{refl, sym, ap, ◌∙◌}
use borrow.Author.Rules.{rules}
use Rattle.rules.specs.Rows.{item_at}
use Rattle.rules.specs.WellFormed.{every, kind_ok, kinds_ok}
use Rattle.wellformed.proofs.Along.{all_rows, each_start}
use Rattle.wellformed.proofs.item.kinds_ok.Goals as goal

pub returns : goal.returns
unfolding kinds_ok
returns g c =
    let a = c.args in
    all_rows _ _ _ (λ i. kind_ok (item_at (g.T.Table.words a.items) i)) 0 a.n c.all.ensures.ran refl (λ x b t k. search rules)
    ∙ sym (ap every (each_start _ a.n))
