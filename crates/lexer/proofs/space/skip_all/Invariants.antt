-- `skip_all` meets its contract. The loop's invariant: the whole gap is i bytes and the gap of what follows them.
-- Assumes nothing.
use mathlib.Core.Path.{◌≡◌}
use Prim.Native.Nat.{◌≤◌, ◌-◌, ◌+◌}
use lib.ListN.{length, drop}
use Rattle.rules.specs.Space.{gap}
use Rattle.lexer.proofs.space.skip_all.Given as goal

abbrev pub invariant-loop-n : goal.invariant-loop-n
invariant-loop-n l = (l.i ≤ length l.s) × (gap l.s ≡ l.i + gap (drop l.i l.s))

abbrev pub decreases-loop-n : goal.decreases-loop-n
decreases-loop-n l = length l.s - l.i
