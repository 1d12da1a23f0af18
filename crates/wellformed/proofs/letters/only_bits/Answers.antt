-- `only_bits` meets its contract.
-- Assumes nothing.
use borrow.Author.Rules.{rules}
use borrow.Author.Tests.{tests}
use Rattle.rules.specs.Bytes.{bit}
use Rattle.wellformed.proofs.Counted.{all_only}
use Rattle.wellformed.proofs.letters.only_bits.Goals as goal

pub returns : goal.returns
returns c = all_only _ _ _ bit c.args.s.now c.all.ensures.ran (search rules) (λ x b t k. search (rules, tests))
