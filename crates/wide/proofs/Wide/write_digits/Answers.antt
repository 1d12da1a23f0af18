use native.Mathlib.Omega.{arith}
use Rattle.laws.proofs.Tests.{said_not, said_not_not}
use Rattle.wide.specs.Wide.{bits}
use Rattle.wide.proofs.Halves.{wide_below}
use Rattle.wide.proofs.LastDigit.{tenth_less, digit-fits, low_digit, placed_some, placed_none, place_some, placed_more, placed_all}
use Rattle.wide.proofs.Wide.write_digits.Goals as goal

pub overflow_sub-i : goal.overflow_sub-i
overflow_sub-i c =
    let s = c.args.self in
    placed_some c.requires.n_value (wide_below s.hi s.lo (omega arith) (omega arith))

pub loop-t-init : goal.loop-t-init
loop-t-init c =
    let s = c.args.self in
    placed_none c.requires.n_value (wide_below s.hi s.lo (omega arith) (omega arith)) c.args.out.now c.requires.n_in_bounds

pub overflow_add-out : goal.overflow_add-out
overflow_add-out c = record { fits = digit-fits (bits c.loop-t.rest) c.tenth-t.ensures.1 }

pub bounds-out-i : goal.bounds-out-i
bounds-out-i c = c.loop-t.invariant.room

pub overflow_sub-i-in-loop-t : goal.overflow_sub-i-in-loop-t
overflow_sub-i-in-loop-t c =
    place_some c.loop-t.invariant (said_not c.is_one_digit.ensures c.loop-t-test.true-raw)

pub loop-t-smaller : goal.loop-t-smaller
loop-t-smaller c =
    tenth_less (bits c.loop-t.rest) (said_not c.is_one_digit.ensures c.loop-t-test.true-raw) c.tenth-t.ensures.0

pub loop-t-preserved : goal.loop-t-preserved
loop-t-preserved c =
    let t = c.tenth-t.ensures in
    placed_more c.loop-t.invariant (said_not c.is_one_digit.ensures c.loop-t-test.true-raw) t.0 t.1

pub overflow_cast-out : goal.overflow_cast-out
overflow_cast-out c =
    let rest = c.loop-t.rest in
    record { fits = (low_digit rest.hi rest.lo (said_not_not c.is_one_digit.ensures c.loop-t-test.false-raw)).1 }

pub overflow_add-out-2 : goal.overflow_add-out-2
overflow_add-out-2 c =
    let rest = c.loop-t.rest in
    record { fits = (low_digit rest.hi rest.lo (said_not_not c.is_one_digit.ensures c.loop-t-test.false-raw)).2 }

pub bounds-out-i-2 : goal.bounds-out-i-2
bounds-out-i-2 c = c.loop-t.invariant.room

pub returns : goal.returns
returns c =
    let l = c.loop-t in
    let one = said_not_not c.is_one_digit.ensures c.loop-t-test.false-raw in
    placed_all l.invariant one (low_digit l.rest.hi l.rest.lo one).0
