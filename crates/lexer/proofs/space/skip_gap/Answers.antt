-- `skip_gap` meets its contract: behind the blanks the gap goes on, or the next byte ends it.
-- Assumes nothing.
use native.Mathlib.Omega.{arith}
use Rattle.rules.specs.Space.{skip_len}
use Rattle.laws.proofs.Tests.{nums}
use Rattle.laws.proofs.Runs.{far-end}
use Rattle.laws.proofs.Spaces.{skip_len-le, rest-gap, rest-gap-fits}
use borrow.Author.Rules.{rules}
use Rattle.lexer.proofs.Gaps.{no_gap}
use Rattle.lexer.proofs.space.skip_gap.Goals as goal

pub returns-then-s-n : goal.returns-then-s-n
returns-then-s-n c =
    omega (arith, c.blank_len-n.ensures.onward, far-end skip_len skip_len-le c.args.s.now c.blank_len-n.result 0 c.if-s-n.true)

pub overflow_add-result : goal.overflow_add-result
overflow_add-result c =
    omega (arith, c.blank_len-n.ensures.within, rest-gap-fits c.args.s.now c.blank_len-n.result c.skip_all.ensures)

pub returns-then-b-gt127 : goal.returns-then-b-gt127
returns-then-b-gt127 c =
    omega (arith, c.blank_len-n.ensures.onward, rest-gap c.args.s.now c.blank_len-n.result c.skip_all.ensures)

pub overflow_add-result-then-b-eq59 : goal.overflow_add-result-then-b-eq59
overflow_add-result-then-b-eq59 c =
    omega (arith, c.blank_len-n.ensures.within, rest-gap-fits c.args.s.now c.blank_len-n.result c.skip_all-then-b-eq59.ensures)

pub returns-then-b-eq59 : goal.returns-then-b-eq59
returns-then-b-eq59 c =
    omega (arith, c.blank_len-n.ensures.onward, rest-gap c.args.s.now c.blank_len-n.result c.skip_all-then-b-eq59.ensures)

pub returns : goal.returns
returns c =
    omega (arith, c.blank_len-n.ensures.onward, no_gap c.args.s.now c.blank_len-n.result (search rules) (search rules) c.blank_len-n.ensures.ends (search nums))
