-- The loop's invariant: i bytes of the word stand over the front of the output, and the rest is as it was.
-- Assumes nothing.
use mathlib.Core.Path.{◌≡◌}
use mathlib.Core.List.{◌++◌}
use Prim.Native.Nat.{◌≤◌}
use lib.ListN.{length, take, drop}
use Rattle.output.proofs.put.Given as goal

abbrev pub invariant-loop-i : goal.invariant-loop-i
invariant-loop-i l = (l.i ≤ length l.word) × ((l.out ≡ take l.i l.word ++ drop l.i l.initial.out) × ((length l.out ≡ length l.initial.out) × (length l.word ≤ length l.initial.out)))
