use Rattle.rules.specs.Bytes.{inside, digit}
use Rattle.scan.proofs.is_digit.Goals as goal

pub returns : goal.returns
unfolding inside digit
returns c = c.is_ascii_digit.ensures.value
