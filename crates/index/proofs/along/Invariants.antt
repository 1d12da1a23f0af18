-- `along` meets its contract. While it looks at candidates, what it answers is what a search from here answers;
-- while it compares letters, from the last to the first, those from here on are the same.
-- Assumes nothing.
use Prim.Native.Nat.{◌≤◌, ◌-◌}
use mathlib.Core.Bool.{true}
use mathlib.Core.Path.{◌≡◌}
use lib.ListN.{length, drop}
use Rattle.rules.specs.Bytes.{same}
use Rattle.rules.specs.Reading.{find_row}
use Rattle.index.proofs.along.Given as goal

abbrev pub invariant-loop-j : goal.invariant-loop-j
invariant-loop-j l =
    (l.j ≤ length l.name) × (same (drop l.j l.other) (drop l.j l.name) ≡ true)

abbrev pub decreases-loop-j : goal.decreases-loop-j
decreases-loop-j l = l.j

abbrev pub invariant-candidates : goal.invariant-candidates
invariant-candidates l =
    find_row l.text l.statements l.name l.first (l.past - l.first) ≡ find_row l.text l.statements l.name l.first (l.i - l.first)

abbrev pub decreases-candidates : goal.decreases-candidates
decreases-candidates l = l.i
