use mathlib.Core.Path.{refl}
use Rattle.parser.specs.Stands.{world}
use Rattle.peldarox.proofs.Endings.{counted, faulty}
use Rattle.peldarox.proofs.finish.Goals as goal

pub returns-in-Ok-clause-ends : goal.returns-in-Ok-clause-ends
unfolding world
returns-in-Ok-clause-ends c = rw c.in-Ok.is (counted (world c.args.p.now) _ _ refl c.clear.ensures.counts c.clear.ensures.clears)

pub returns-in-Err-clause-ends : goal.returns-in-Err-clause-ends
returns-in-Err-clause-ends c = rw c.in-Err.is (faulty _ _ _ c.reason_of.ensures c.clear-in-Err.ensures.clears)
