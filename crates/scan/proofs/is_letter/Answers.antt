use Rattle.rules.specs.Bytes.{inside, letter}
use Rattle.scan.proofs.is_letter.Goals as goal

pub returns : goal.returns
unfolding inside letter
returns c = c.is_ascii_alphabetic.ensures.value
