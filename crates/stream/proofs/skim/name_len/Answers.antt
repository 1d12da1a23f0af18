-- `name_len` meets its contract.
-- Assumes nothing.
use native.Mathlib.Omega.{arith}
use Rattle.rules.specs.Bytes.{name_byte}
use Rattle.laws.proofs.Runs.{rest-fits}
use Rattle.stream.proofs.skim.name_len.Goals as goal

pub overflow_add-n : goal.overflow_add-n
overflow_add-n c = omega (arith, rest-fits name_byte c.args.s.now 1 c.name_len.ensures)
