-- `listing::stack::push_operands` meets its contract.
-- Assumes nothing.
use native.Mathlib.Omega.{arith}
use Rattle.listing.proofs.Pushes.{pushing_none, pushing_skip, pushing_keep, pushing_below, pushing_done}
use Rattle.listing.proofs.stack.push_operands.Goals as goal

pub loop-k-init : goal.loop-k-init
loop-k-init c = pushing_none _ _ _ _ _ _

pub overflow_sub-k : goal.overflow_sub-k
overflow_sub-k c = omega arith

pub overflow_cast-at : goal.overflow_cast-at
overflow_cast-at c = omega arith

pub overflow_mul-at : goal.overflow_mul-at
overflow_mul-at c = omega arith

pub offset_bounds-operands-at : goal.offset_bounds-operands-at
offset_bounds-operands-at c = omega arith

pub bounds-operands-at : goal.bounds-operands-at
bounds-operands-at c = omega arith

pub overflow_add-work : goal.overflow_add-work
overflow_add-work c = omega arith

pub offset_bounds-operands-at-then-operands-at-eq-VALUE : goal.offset_bounds-operands-at-then-operands-at-eq-VALUE
offset_bounds-operands-at-then-operands-at-eq-VALUE c = omega arith

pub bounds-operands-at-then-operands-at-eq-VALUE : goal.bounds-operands-at-then-operands-at-eq-VALUE
bounds-operands-at-then-operands-at-eq-VALUE c = omega arith

pub overflow_mul-work : goal.overflow_mul-work
overflow_mul-work c =
    omega (arith, pushing_below _ _ _ _ _ _ _ _ _ c.loop-k.invariant 65536 c.requires.small_rows c.loop-k-test.true c.if-operands-at-eq-VALUE.true)

pub overflow_add-work-then-operands-at-eq-VALUE : goal.overflow_add-work-then-operands-at-eq-VALUE
overflow_add-work-then-operands-at-eq-VALUE c = omega arith

pub offset_bounds-work-base : goal.offset_bounds-work-base
offset_bounds-work-base c = omega arith

pub bounds-work-base : goal.bounds-work-base
bounds-work-base c = omega arith

pub overflow_add-t : goal.overflow_add-t
overflow_add-t c = omega arith

pub loop-k-smaller-then-operands-at-eq-VALUE : goal.loop-k-smaller-then-operands-at-eq-VALUE
loop-k-smaller-then-operands-at-eq-VALUE c = omega arith

pub loop-k-preserved-then-operands-at-eq-VALUE : goal.loop-k-preserved-then-operands-at-eq-VALUE
loop-k-preserved-then-operands-at-eq-VALUE c =
    pushing_keep _ _ _ _ _ _ _ _ _ c.loop-k.invariant c.loop-k-test.true c.if-operands-at-eq-VALUE.true (omega arith)

pub loop-k-smaller : goal.loop-k-smaller
loop-k-smaller c = omega arith

pub loop-k-preserved : goal.loop-k-preserved
loop-k-preserved c = pushing_skip _ _ _ _ _ _ _ _ _ c.loop-k.invariant c.loop-k-test.true c.if-operands-at-eq-VALUE.false

pub returns : goal.returns
returns c = pushing_done _ _ _ _ _ _ _ _ _ c.loop-k.invariant c.loop-k-test.false
