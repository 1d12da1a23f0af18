-- `starts_int` meets its contract: by its two tests.
-- Assumes nothing.
use Rattle.rules.specs.Tokens.{int_start}
use Rattle.laws.proofs.Tests.{tests}
use Rattle.lexer.proofs.token.starts_int.Goals as goal

pub returns-then-b-eq45 : goal.returns-then-b-eq45
unfolding int_start
returns-then-b-eq45 c = search tests

pub returns-else-b-eq45 : goal.returns-else-b-eq45
unfolding int_start
returns-else-b-eq45 c = search tests
