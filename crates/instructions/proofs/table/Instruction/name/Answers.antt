-- The table's name is the instruction's, at every place.
-- Assumes nothing.
use Rattle.rules.specs.Bytes.{same}
use Rattle.rules.specs.Instructions.{instruction_name}
use Rattle.instructions.proofs.Rows.{right_name, name_at}
use Rattle.instructions.proofs.table.Instruction.name.Goals as goal

pub returns : goal.returns
unfolding right_name instruction_name same
returns c = search (name_at, c.args.self.in_table)
