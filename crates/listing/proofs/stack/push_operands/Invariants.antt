-- `listing::stack::push_operands` meets its contract.
-- Assumes nothing.
use Rattle.listing.proofs.Pushes.{Pushing}
use Rattle.listing.proofs.stack.push_operands.Given as goal

abbrev pub invariant-loop-k : goal.invariant-loop-k
invariant-loop-k l = Pushing l.operands l.initial.work l.base l.depth l.first l.past l.work l.t l.k

abbrev pub decreases-loop-k : goal.decreases-loop-k
decreases-loop-k l = l.k
