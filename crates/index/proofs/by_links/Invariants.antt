-- `by_links` meets its contract. While it looks at candidates, what is to be found is what a search from here finds, and the next candidate has the name's slot;
-- while it compares letters, from the last to the first, those from here on are the same.
-- Assumes nothing.
use Prim.Native.Nat.{ℕ, ◌≤◌, ◌<◌}
use mathlib.Core.Bool.{true}
use mathlib.Core.Path.{◌≡◌}
use lib.ListN.{length, drop}
use Rattle.rules.specs.Bytes.{same}
use Rattle.index.specs.Slots.{slot_of, slots_in}
use Rattle.index.specs.Linked.{Linked}
use Rattle.index.proofs.Search.{Walk}
use Rattle.index.proofs.by_links.Given as goal

abbrev pub invariant-loop-j : goal.invariant-loop-j
invariant-loop-j l = (l.j ≤ length l.name) × (same (drop l.j l.linked) (drop l.j l.name) ≡ true)

abbrev pub decreases-loop-j : goal.decreases-loop-j
decreases-loop-j l = l.j

abbrev pub invariant-candidates : goal.invariant-candidates
invariant-candidates l =
    (past : ℕ) → l.slot < 1024 → l.slot ≡ slot_of l.name → Linked (slots_in l.text l.statements) l.index l.first past → Walk l.text l.statements l.name l.first past l.i

abbrev pub decreases-candidates : goal.decreases-candidates
decreases-candidates l = l.i
