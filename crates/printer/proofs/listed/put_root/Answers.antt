-- `printer::listed::put_root` meets its contract.
-- Assumes nothing.
use Rattle.printer.proofs.Roots.{named_value, named-constant, value_low, rows_none, rows_as}
use Rattle.printer.proofs.listed.put_root.Goals as goal

pub put_listed-requires : goal.put_listed-requires
put_listed-requires c = record { prepared = c.requires.prepared; root_lt_rows = value_low _ _ _ c.operand_at-row.ensures c.if-row-eq-VALUE.true c.requires.roots_inside }

pub returns-then-row-eq-VALUE : goal.returns-then-row-eq-VALUE
returns-then-row-eq-VALUE c = rows_as _ _ (named_value _ _ c.operand_at-row.ensures c.if-row-eq-VALUE.true) c.put_listed.ensures

pub returns-else-row-eq-VALUE : goal.returns-else-row-eq-VALUE
returns-else-row-eq-VALUE c = rows_as _ _ (named-constant _ _ c.operand_at-row.ensures c.if-row-eq-VALUE.false) (rows_none _ _ _ c.requires.prepared)
