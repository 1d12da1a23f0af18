-- `end` meets its contract: the machine's report, by the tests that led there; that it is the definition's is the theorem of Streams.
-- Assumes nothing.
use Rattle.stream.specs.Steps.{ended, concluded}
use Rattle.laws.proofs.Tests.{nums}
use Rattle.stream.proofs.Streams.{ends}
use Rattle.stream.proofs.Stream.end.Goals as goal

pub returns-then-self-gt65536 : goal.returns-then-self-gt65536
unfolding ended concluded
returns-then-self-gt65536 c = ends (simp c.refused.ensures (search nums))

pub returns-in-Between : goal.returns-in-Between
unfolding ended concluded
returns-in-Between c = ends (simp (c.finish.ensures, c.in-Between.is) (search nums))

pub returns-in-Inside : goal.returns-in-Inside
unfolding ended concluded
returns-in-Inside c = ends (simp (c.refused-in-Inside.ensures, c.into.ensures, c.in-Inside.is) (search nums))

pub returns-in-Bad : goal.returns-in-Bad
unfolding ended concluded
returns-in-Bad c = ends (simp (c.refused-in-Bad.ensures, c.into-in-Bad.ensures, c.in-Bad.is) (search nums))
