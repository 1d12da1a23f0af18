-- `listing::Graph::advance` meets its contract.
-- Assumes nothing.
use mathlib.Core.Path.{◌≡◌}
use Rattle.listing.specs.Work.{left}
use Rattle.listing.proofs.Steps.{Going}
use Rattle.listing.proofs.Graph.advance.Given as goal

abbrev pub invariant-loop-depth : goal.invariant-loop-depth
invariant-loop-depth l = record { going : Going l.self.statements.now l.self.operands.now l.self.rows l.initial.work l.initial.depth l.work l.depth; stays : l.walk ≡ l.initial.walk }

abbrev pub decreases-loop-depth : goal.decreases-loop-depth
decreases-loop-depth l = left l.self.statements.now l.self.rows l.work l.depth
