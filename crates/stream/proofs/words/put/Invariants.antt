-- `put` meets its contract. The loop's invariant: to store the words that are left makes what to store the whole row makes.
-- Assumes nothing.
use mathlib.Core.Path.{◌≡◌}
use lib.ListN.{length, drop}
use lib.Seq.{sets}
use Rattle.stream.proofs.words.put.Given as goal

abbrev pub invariant-loop-i : goal.invariant-loop-i
invariant-loop-i l = (length l.words ≡ length l.initial.words) × (sets l.words l.i (drop l.i l.row) ≡ sets l.initial.words 0 l.row)
