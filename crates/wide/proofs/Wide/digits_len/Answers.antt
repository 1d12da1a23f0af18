use native.Mathlib.Omega.{arith}
use Rattle.laws.proofs.Tests.{said_not, said_not_not}
use Rattle.wide.specs.Wide.{bits}
use Rattle.wide.proofs.Halves.{wide_below}
use Rattle.wide.proofs.LastDigit.{tenth_less, counted_none, counted-fits, counted_more, counted_all}
use Rattle.wide.proofs.Wide.digits_len.Goals as goal

pub loop-rest-init : goal.loop-rest-init
loop-rest-init c = let s = c.args.self in counted_none (wide_below s.hi s.lo (omega arith) (omega arith))

pub overflow_add-n : goal.overflow_add-n
overflow_add-n c = record { fits = counted-fits c.loop-rest.invariant }

pub loop-rest-smaller : goal.loop-rest-smaller
loop-rest-smaller c =
    let more = said_not c.is_one_digit.ensures c.loop-rest-test.true-raw in
    tenth_less (bits c.loop-rest.rest) more c.tenth-t.ensures.0

pub loop-rest-preserved : goal.loop-rest-preserved
loop-rest-preserved c =
    let more = said_not c.is_one_digit.ensures c.loop-rest-test.true-raw in
    counted_more c.loop-rest.invariant more c.tenth-t.ensures.0

pub returns : goal.returns
returns c = counted_all c.loop-rest.invariant (said_not_not c.is_one_digit.ensures c.loop-rest-test.false-raw)
