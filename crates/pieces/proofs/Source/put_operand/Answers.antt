-- `pieces::Source::put_operand` meets its contract.
-- Assumes nothing.
use mathlib.Core.Path.{ap}
use mathlib.Core.List.{[]}
use Rattle.rules.specs.Syntax.{Operand}
use Rattle.rules.specs.Printing.{operand}
use Rattle.output.proofs.Words.{writes_as}
use Rattle.pieces.proofs.Seen.{value-seen, constant-seen}
use Rattle.pieces.proofs.Source.put_operand.Goals as goal

pub returns-then-row-eq-VALUE : goal.returns-then-row-eq-VALUE
returns-then-row-eq-VALUE c = writes_as (value-seen _ _ _ _ c.operand_at-row.ensures c.if-row-eq-VALUE.true) c.put_name.ensures

pub returns-else-row-eq-VALUE : goal.returns-else-row-eq-VALUE
returns-else-row-eq-VALUE c = writes_as (ap (λ (o : Operand). operand o []) (constant-seen _ _ _ _ c.operand_at-row.ensures c.if-row-eq-VALUE.false)) c.put_constant.ensures
