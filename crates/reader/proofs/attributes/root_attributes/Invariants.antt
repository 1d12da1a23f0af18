-- `reader::attributes::root_attributes` meets its contract: what is left to read behind each turn is what the rule reads, what it leaves is as it was, and each turn claims a row.
-- Assumes nothing.
use Rattle.std.proofs.Common.{◌-◌, ◌≡◌}
use Rattle.rules.specs.Reading as R
use Rattle.parser.specs.Stands.{but_attributes}
use Rattle.reader.proofs.Loops.{SoFar}
use Rattle.reader.proofs.attributes.root_attributes.Given as goal

abbrev pub invariant-loop-p : goal.invariant-loop-p
invariant-loop-p l = SoFar R.root_attributes l.initial.p l.p × (but_attributes l.p ≡ but_attributes l.initial.p)

abbrev pub decreases-loop-p : goal.decreases-loop-p
decreases-loop-p l = 65536 - l.p.counts.attributes
