-- `listing::Graph::begin` meets its contract.
-- Assumes nothing.
use Rattle.listing.proofs.Steps.{begun}
use Rattle.listing.proofs.Graph.begin.Goals as goal

pub returns : goal.returns
returns c = λ statements operands so rd. begun statements operands _ so _ _ c.requires.root_lt_rows rd
