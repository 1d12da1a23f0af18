use native.Mathlib.Omega.{arith}
use borrow.Author.Tests.{ltb-true}
use Rattle.wide.proofs.Tens.{short-mul, short-fits, short_in, carry10, carry_small, in_ten, shift_in, shift_out}
use Rattle.wide.proofs.Wide.shifted.Goals as goal

pub overflow_mul-result : goal.overflow_mul-result
overflow_mul-result c =
    let at = c.args in
    record { fits = short-mul at.self.lo at.d c.if-self-eq0.true (ltb-true _ _ c.if-self-lt-TENTH.true-raw) (omega arith) }

pub overflow_add-result : goal.overflow_add-result
overflow_add-result c =
    let at = c.args in
    record { fits = short-fits at.self.lo at.d c.if-self-eq0.true (ltb-true _ _ c.if-self-lt-TENTH.true-raw) (omega arith) }

pub returns-then-self-lt-TENTH : goal.returns-then-self-lt-TENTH
returns-then-self-lt-TENTH c =
    let at = c.args in
    short_in at.self.lo at.d c.if-self-eq0.true (ltb-true _ _ c.if-self-lt-TENTH.true-raw) (omega arith)

pub overflow_sub-carry : goal.overflow_sub-carry
overflow_sub-carry c =
    let at = c.args in
    omega (arith, carry_small at.self.lo at.d (omega arith) (omega arith))

pub returns-then-carry-self : goal.returns-then-carry-self
returns-then-carry-self c =
    let at = c.args in
    shift_out at.self.hi at.self.lo at.d (omega arith) (omega arith) c.if-carry-self.true

pub overflow_add-result-2 : goal.overflow_add-result-2
overflow_add-result-2 c =
    let at = c.args in
    let small = carry_small at.self.lo at.d (omega arith) (omega arith) in
    record { fits = in_ten at.self.hi (carry10 at.self.lo at.d) small c.if-carry-self.false }

pub returns : goal.returns
returns c =
    let at = c.args in
    shift_in at.self.hi at.self.lo at.d (omega arith) (omega arith) c.if-carry-self.false
