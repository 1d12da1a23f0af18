use Rattle.rules.specs.Rows.{operand_words}
use Rattle.tables.proofs.claim_operand.Goals as goal

pub returns : goal.returns
unfolding operand_words
returns c = c.claim.ensures
