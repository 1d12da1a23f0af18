-- `reader::sides::instruction_side` meets its contract.
-- Assumes nothing.
use Rattle.std.proofs.Common.{arith}
use Rattle.laws.proofs.Names.{arity-few}
use Rattle.reader.proofs.sides.instruction_side.Goals as goal

pub overflow_cast-arity : goal.overflow_cast-arity
overflow_cast-arity c = omega (arith, arity-few c.args.i.place c.args.i.in_table, c.arity.ensures)
