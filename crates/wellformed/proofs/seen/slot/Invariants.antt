-- `slot` meets its contract. The loop's invariant: the letters that are left give the name's number.
-- Assumes nothing.
use mathlib.Core.Path.{◌≡◌}
use Prim.Native.Nat.{◌<◌}
use lib.ListN.{drop}
use Rattle.wellformed.specs.Slots.{number_of}
use Rattle.wellformed.proofs.seen.slot.Given as goal

abbrev pub invariant-loop-letter : goal.invariant-loop-letter
invariant-loop-letter l = (l.h < 65536) × (number_of 0 l.name ≡ number_of l.h (drop l.letter-index l.name))
