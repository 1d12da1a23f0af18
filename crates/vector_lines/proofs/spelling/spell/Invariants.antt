-- What is spelt stays within the room; each turn goes past a byte of the line.
use Rattle.std.proofs.Common.{◌≤◌, length}
use Rattle.vector_lines.proofs.spelling.spell.Given as goal

abbrev pub invariant-loop-rest : goal.invariant-loop-rest
invariant-loop-rest g l = l.n ≤ length l.room

abbrev pub decreases-loop-rest : goal.decreases-loop-rest
decreases-loop-rest g l = length l.rest
