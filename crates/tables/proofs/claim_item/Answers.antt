use Rattle.rules.specs.Rows.{item_words}
use Rattle.tables.proofs.claim_item.Goals as goal

pub returns : goal.returns
unfolding item_words
returns c = c.claim.ensures
