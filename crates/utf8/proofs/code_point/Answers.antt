use Rattle.rules.specs.Utf8.{code_point}
use Rattle.laws.proofs.Tests.{nums}
use Rattle.utf8.proofs.code_point.Goals as goal

pub returns-then-n-le1 : goal.returns-then-n-le1
unfolding code_point
returns-then-n-le1 c = rw c.byte_at-a.ensures (search nums)

pub returns-then-n-le2 : goal.returns-then-n-le2
unfolding code_point
returns-then-n-le2 c = rw (c.byte_at-a.ensures, c.byte_at.ensures) (search nums)

pub returns-then-n-le3 : goal.returns-then-n-le3
unfolding code_point
returns-then-n-le3 c = rw (c.byte_at-a.ensures, c.byte_at.ensures, c.byte_at-2.ensures) (search nums)

pub returns : goal.returns
unfolding code_point
returns c = rw (c.byte_at-a.ensures, c.byte_at.ensures, c.byte_at-2.ensures, c.byte_at-3.ensures) (search nums)
