-- `enter_rows` meets its contract. While rows enter, those before are linked, and the index keeps its length.
-- Assumes nothing.
use Prim.Native.Nat.{ℕ, ◌≤◌}
use mathlib.Core.Path.{◌≡◌}
use lib.ListN.{length}
use Rattle.index.specs.Slots.{slots_in}
use Rattle.index.specs.Linked.{Linked}
use Rattle.index.proofs.enter_rows.Given as goal

abbrev pub invariant-loop-i : goal.invariant-loop-i
invariant-loop-i l = (l.from ≤ l.i) × (l.i ≤ l.past) × (length l.index ≡ length l.initial.index) × ((first : ℕ) → Linked (slots_in l.text l.statements) l.initial.index first l.from → Linked (slots_in l.text l.statements) l.index first l.i)
