use native.Mathlib.Omega.{arith}
use borrow.Author.Rules.{rules}
use mathlib.Core.Path.{refl}
use Rattle.utf8.proofs.Passes.{reached_none, reached-within, reached_more, reached_bad, reached-end}
use Rattle.utf8.proofs.check.Goals as goal

pub loop-i-init : goal.loop-i-init
loop-i-init c = reached_none c.args.text.now

pub overflow_add-i : goal.overflow_add-i
overflow_add-i c = omega (arith, reached-within c.loop-i.invariant c.in-Some.ensures.passes)

pub loop-i-smaller : goal.loop-i-smaller
loop-i-smaller c =
    omega (arith, reached-within c.loop-i.invariant c.in-Some.ensures.passes, c.in-Some.ensures.some)

pub loop-i-preserved : goal.loop-i-preserved
loop-i-preserved c = reached_more c.loop-i.invariant c.in-Some.ensures.passes

pub returns-in_default : goal.returns-in_default
returns-in_default c = reached_bad c.loop-i.invariant c.in_default.ensures.passes (search rules) refl

pub returns : goal.returns
returns c = reached-end c.loop-i.invariant c.loop-i-test.false
