use native.Mathlib.Omega.{arith}
use Rattle.tables.proofs.Zeros.{zeros_behind, no_zeros}
use Rattle.tables.proofs.clear.Goals as goal

pub returns-then-from-table : goal.returns-then-from-table
returns-then-from-table c = zeros_behind _ _ _ (omega arith) (c.fill.ensures.after (λ y e. e))

pub returns-else-from-table : goal.returns-else-from-table
returns-else-from-table c = no_zeros _ _ c.if-from-table.false
