-- `named` meets its contract: by its test.
-- Assumes nothing.
use Rattle.laws.proofs.Tests.{nums}
use Rattle.lexer.proofs.token.named.Goals as goal

pub returns-then-n-eq0 : goal.returns-then-n-eq0
returns-then-n-eq0 c = search nums

pub returns : goal.returns
returns c = search nums
