use Rattle.wide.specs.Wide.{bits}
use Rattle.wide.proofs.LastDigit.{Placed}
use Rattle.wide.proofs.Wide.write_digits.Given as goal

abbrev pub invariant-loop-t : goal.invariant-loop-t
invariant-loop-t l = Placed (bits l.initial.rest) l.n l.initial.out (bits l.rest) l.i l.out

abbrev pub decreases-loop-t : goal.decreases-loop-t
decreases-loop-t l = bits l.rest
