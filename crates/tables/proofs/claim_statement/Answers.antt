use Rattle.rules.specs.Rows.{statement_words}
use Rattle.tables.proofs.claim_statement.Goals as goal

pub returns : goal.returns
unfolding statement_words
returns c = c.claim.ensures
