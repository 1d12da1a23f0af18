use Rattle.rules.specs.Bytes.{pattern_byte}
use Rattle.laws.proofs.Tests.{tests}
use Rattle.scan.proofs.is_pattern.Goals as goal

pub returns-then-b-eq48 : goal.returns-then-b-eq48
unfolding pattern_byte
returns-then-b-eq48 c = search tests

pub returns-then-b-eq49 : goal.returns-then-b-eq49
unfolding pattern_byte
returns-then-b-eq49 c = search tests

pub returns-else-b-eq49 : goal.returns-else-b-eq49
unfolding pattern_byte
returns-else-b-eq49 c = search tests
