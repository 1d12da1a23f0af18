-- By what the comparison says, and the other candidate alone.
-- Assumes nothing.
use Rattle.laws.proofs.Tests.{said}
use Rattle.instructions.proofs.compare.either.Goals as goal

pub returns-then-same : goal.returns-then-same
returns-then-same g c = rw (said c.same.ensures c.if-same.true)

pub returns : goal.returns
returns g c = rw (said c.same.ensures c.if-same.false, c.only.ensures)
