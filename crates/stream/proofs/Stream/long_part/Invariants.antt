-- `long_part` meets its contract. The loop's invariant: what is left, fed to the state as it is now, comes to the whole part fed to the state at the start.
-- Assumes nothing.
use mathlib.Core.Path.{◌≡◌}
use lib.ListN.{length}
use Rattle.stream.specs.Steps.{fed}
use Rattle.stream.proofs.Stream.long_part.Given as goal

abbrev pub invariant-loop-rest : goal.invariant-loop-rest
invariant-loop-rest l = fed l.initial.state l.bytes ≡ fed l.state l.rest

abbrev pub decreases-loop-rest : goal.decreases-loop-rest
decreases-loop-rest l = length l.rest
