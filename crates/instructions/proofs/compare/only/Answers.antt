-- By what the comparison says.
-- Assumes nothing.
use Rattle.laws.proofs.Tests.{said}
use Rattle.instructions.proofs.compare.only.Goals as goal

pub returns-then-same : goal.returns-then-same
returns-then-same g c = rw (said c.same.ensures c.if-same.true)

pub returns-else-same : goal.returns-else-same
returns-else-same g c = rw (said c.same.ensures c.if-same.false)
