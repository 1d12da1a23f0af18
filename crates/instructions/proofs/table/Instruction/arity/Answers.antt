-- The table's arity is the instruction's, at every place.
-- Assumes nothing.
use Rattle.instructions.proofs.Rows.{arities, arity_at}
use Rattle.instructions.proofs.table.Instruction.arity.Goals as goal

pub returns : goal.returns
unfolding arities
returns c = arity_at c.args.self.place c.args.self.in_table
