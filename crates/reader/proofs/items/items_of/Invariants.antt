-- `reader::items::items_of` meets its contract: what is left to read behind each turn is what the rule reads, and each turn claims a row.
-- Assumes nothing.
use Rattle.std.proofs.Common.{◌-◌}
use Rattle.rules.specs.Reading as R
use Rattle.reader.proofs.Loops.{SoFar}
use Rattle.reader.proofs.items.items_of.Given as goal

abbrev pub invariant-loop-p : goal.invariant-loop-p
invariant-loop-p l = SoFar (R.items l.entry) l.initial.p l.p

abbrev pub decreases-loop-p : goal.decreases-loop-p
decreases-loop-p l = 65536 - l.p.counts.items
