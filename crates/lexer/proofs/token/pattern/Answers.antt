-- `pattern` meets its contract: the tests at the first byte, and the letters counted in the rest that was lent.
-- Assumes nothing.
use native.Mathlib.Omega.{arith}
use Rattle.rules.specs.Bytes.{pattern_byte}
use Rattle.rules.specs.Tokens.{pattern}
use Rattle.laws.proofs.Runs.{empty, rest-count, rest-fits}
use Rattle.laws.proofs.Tests.{nums}
use Rattle.laws.proofs.Tokens.{pattern-first}
use borrow.Author.Rules.{rules}
use Rattle.lexer.proofs.token.pattern.Goals as goal

pub returns-then-is_empty : goal.returns-then-is_empty
unfolding pattern
returns-then-is_empty c = rw (empty c.args.s.now (search rules))

pub returns-then-s-ne61 : goal.returns-then-s-ne61
unfolding pattern
returns-then-s-ne61 c = simp (pattern-first c.args.s.now (search rules)) (search nums)

pub returns-then-n-eq0 : goal.returns-then-n-eq0
unfolding pattern
returns-then-n-eq0 c =
    let s = c.args.s.now in
    simp (pattern-first s (search rules), ← rest-count pattern_byte s 1 c.pattern_len-n.ensures) (search nums)

pub overflow_add-result : goal.overflow_add-result
overflow_add-result c = omega (arith, rest-fits pattern_byte c.args.s.now 1 c.pattern_len-n.ensures)

pub returns : goal.returns
unfolding pattern
returns c =
    let s = c.args.s.now in
    simp (pattern-first s (search rules), ← rest-count pattern_byte s 1 c.pattern_len-n.ensures) (search nums)
