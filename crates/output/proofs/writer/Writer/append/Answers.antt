-- `output::writer::Writer::append` meets its contract.
-- Assumes nothing.
use mathlib.Core.Path.{refl}
use native.Mathlib.Omega.{arith}
use Rattle.output.proofs.Words.{appended}
use Rattle.output.proofs.writer.Writer.append.Goals as goal

pub returns : goal.returns
returns g c = λ word h. record { same_reference = refl; appended = appended (omega arith) (omega arith) (h _ _ _ c.write-n.ensures c.write-n.type_inv) (omega arith) }
