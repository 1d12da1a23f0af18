-- `listing::stack::has_block` meets its contract.
-- Assumes nothing.
use Rattle.laws.proofs.Tests.{tests}
use Rattle.rules.specs.WellFormed.{has_block}
use Rattle.listing.proofs.stack.has_block.Goals as goal

pub returns-then-is_phi : goal.returns-then-is_phi
unfolding has_block
returns-then-is_phi c = search tests

pub returns-else-is_phi : goal.returns-else-is_phi
unfolding has_block
returns-else-is_phi c = search tests
