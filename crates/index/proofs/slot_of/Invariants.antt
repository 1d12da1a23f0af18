-- `slot_of` meets its contract. The loop's invariant: the letters that are left give the name's number.
-- Assumes nothing.
use mathlib.Core.Path.{◌≡◌}
use Prim.Native.Nat.{◌<◌}
use lib.ListN.{drop}
use Rattle.index.specs.Slots.{number_of, slot_of}
use Rattle.index.proofs.slot_of.Given as goal

abbrev pub invariant-loop-letter : goal.invariant-loop-letter
invariant-loop-letter l = (l.h < 1024) × (slot_of l.fn.name ≡ number_of l.h (drop l.letter-index l.letters))
