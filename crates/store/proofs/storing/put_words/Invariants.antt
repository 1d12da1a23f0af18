-- `store::storing::put_words` meets its contract. The loop's invariant: i words stand over the front of the output, and the rest is as it was.
-- Assumes nothing.
use mathlib.Core.Path.{◌≡◌}
use mathlib.Core.List.{◌++◌}
use Prim.Native.Nat.{◌*◌, ◌≤◌}
use lib.ListN.{length, take, drop}
use Rattle.rules.specs.Stored.{in_bytes}
use Rattle.store.proofs.storing.put_words.Given as goal

abbrev pub invariant-loop-i : goal.invariant-loop-i
invariant-loop-i l = (l.i ≤ length l.words) × ((l.out ≡ in_bytes (take l.i l.words) ++ drop (l.i * 4) l.initial.out) × ((length l.out ≡ length l.initial.out) × (length l.words * 4 ≤ length l.initial.out)))
