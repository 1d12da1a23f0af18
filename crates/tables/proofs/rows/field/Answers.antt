-- `tables::rows::field` meets its contract.
-- Assumes nothing.
use native.Mathlib.Omega.{arith}
use borrow.Author.Rules.{rules}
use Rattle.tables.proofs.Fields.{row_fits}
use Rattle.tables.proofs.rows.field.Goals as goal

pub overflow_mul-i : goal.overflow_mul-i
overflow_mul-i g c = omega (arith, row_fits c.args.i c.args.length (search rules) c.requires.0)

pub overflow_add-i : goal.overflow_add-i
overflow_add-i g c = omega (arith, row_fits c.args.i c.args.length (search rules) c.requires.0)

pub returns : goal.returns
returns g c = c.word_at.ensures
