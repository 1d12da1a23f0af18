use Rattle.rules.specs.Bytes.{name_byte}
use Rattle.laws.proofs.Tests.{tests}
use Rattle.scan.proofs.is_name.Goals as goal

pub returns-then-is_letter : goal.returns-then-is_letter
unfolding name_byte
returns-then-is_letter c = search tests

pub returns-then-is_digit : goal.returns-then-is_digit
unfolding name_byte
returns-then-is_digit c = search tests

pub returns-then-b-eq95 : goal.returns-then-b-eq95
unfolding name_byte
returns-then-b-eq95 c = search tests

pub returns-else-b-eq95 : goal.returns-else-b-eq95
unfolding name_byte
returns-else-b-eq95 c = search tests
