-- `attributes_ok` meets its contract.
-- Assumes nothing.
use mathlib.Core.Path.{refl}
use borrow.Author.Rules.{rules}
use Rattle.rules.specs.Rows.{attribute_at}
use Rattle.rules.specs.WellFormed.{attribute_ok, attributes_ok}
use Rattle.wellformed.proofs.Along.{all_rows}
use Rattle.wellformed.proofs.attribute.attributes_ok.Goals as goal

pub returns : goal.returns
unfolding attributes_ok
returns g c =
    let a = c.args in
    all_rows _ _ _ (λ i. attribute_ok a.text.now a.lo a.hi (attribute_at (g.T.Table.words a.attributes) i)) a.s.first a.s.past c.all.ensures.ran refl (λ x b t k. search rules)
