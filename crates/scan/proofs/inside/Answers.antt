use Rattle.rules.specs.Bytes.{inside}
use Rattle.laws.proofs.Tests.{tests}
use Rattle.scan.proofs.inside.Goals as goal

pub returns-then-lo-b : goal.returns-then-lo-b
unfolding inside
returns-then-lo-b c = search tests

pub returns-else-lo-b : goal.returns-else-lo-b
unfolding inside
returns-else-lo-b c = search tests
