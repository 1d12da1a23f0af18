-- `blanks` meets its contract.
-- Assumes nothing.
use native.Mathlib.Omega.{arith}
use Rattle.lexer.specs.Blank.{blank}
use Rattle.laws.proofs.Runs.{count_more, count-stop, count-end}
use Rattle.laws.proofs.Tests.{tests}
use borrow.Author.Rules.{rules}
use Rattle.stream.proofs.skim.blanks.Goals as goal

pub loop-i-preserved : goal.loop-i-preserved
loop-i-preserved c =
    omega (arith, count_more blank c.args.s.now c.loop-i.i (search rules) (search tests))

pub returns-else-is_blank : goal.returns-else-is_blank
returns-else-is_blank c =
    omega (arith, count-stop blank c.args.s.now c.loop-i.i (search rules) (search tests))

pub returns-after-loop-i : goal.returns-after-loop-i
returns-after-loop-i c = omega (arith, count-end blank c.args.s.now c.loop-i.i (search rules))
