-- Past the table there is no name.
-- Assumes nothing.
use Rattle.laws.proofs.Over.{nothing, written}
use Rattle.instructions.proofs.Rows.{name-past}
use Rattle.instructions.proofs.put_instruction.Goals as goal

pub returns-in-None : goal.returns-in-None
returns-in-None c = written (name-past c.args.k c.in-None.ensures) nothing
