use Rattle.rules.specs.Rows.{attribute_words}
use Rattle.tables.proofs.claim_attribute.Goals as goal

pub returns : goal.returns
unfolding attribute_words
returns c = c.claim.ensures
