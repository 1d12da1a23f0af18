use Rattle.wide.specs.Wide.{bits}
use Rattle.wide.proofs.LastDigit.{Counted}
use Rattle.wide.proofs.Wide.digits_len.Given as goal

abbrev pub invariant-loop-rest : goal.invariant-loop-rest
invariant-loop-rest l = Counted (bits l.initial.rest) (bits l.rest) l.n

abbrev pub decreases-loop-rest : goal.decreases-loop-rest
decreases-loop-rest l = bits l.rest
