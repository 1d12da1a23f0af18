-- Past the table there is no arity.
-- Assumes nothing.
use mathlib.Core.Path.{sym}
use Rattle.instructions.proofs.Rows.{arity-past}
use Rattle.instructions.proofs.arity.Goals as goal

pub returns-in-None : goal.returns-in-None
returns-in-None c = sym (arity-past c.args.k c.in-None.ensures)
