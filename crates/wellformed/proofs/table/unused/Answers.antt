-- `unused` meets its contract.
-- Assumes nothing.
use borrow.Author.Rules.{rules}
use borrow.Author.Tests.{tests}
use Rattle.rules.specs.WellFormed.{is_zero}
use Rattle.wellformed.proofs.Counted.{all_only}
use Rattle.wellformed.proofs.table.unused.Goals as goal

pub returns : goal.returns
unfolding is_zero
returns c = all_only _ _ _ is_zero c.args.words.now c.all.ensures.ran (search rules) (λ x b t k. search (rules, tests))
