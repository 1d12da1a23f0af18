-- `operands_ok` meets its contract.
-- Assumes nothing.
use mathlib.Core.Path.{refl}
use borrow.Author.Rules.{rules}
use Rattle.rules.specs.Rows.{operand_at}
use Rattle.rules.specs.WellFormed.{operand_ok, operands_ok}
use Rattle.wellformed.proofs.Along.{all_rows}
use Rattle.wellformed.proofs.operand.operands_ok.Goals as goal

pub returns : goal.returns
unfolding operands_ok
returns g c =
    let a = c.args in
    all_rows _ _ _ (λ i. operand_ok (g.T.Table.words a.statements) a.first a.past (operand_at (g.T.Table.words a.operands) i)) a.s.first a.s.past c.all.ensures.ran refl (λ x b t k. search rules)
