-- `skip_len` meets its contract: the first byte is ASCII or not, and the definition goes by that too.
-- Assumes nothing.
use mathlib.Core.Path.{sym, ◌∙◌}
use native.Mathlib.Omega.{arith}
use Rattle.rules.specs.Bytes.{line_byte}
use Rattle.rules.specs.Utf8.{seq_len}
use Rattle.rules.specs.Space.{space_len, comment_len, skip_len}
use Rattle.laws.proofs.Runs.{empty, rest-count, rest-fits}
use Rattle.laws.proofs.Tests.{nums, said}
use Rattle.laws.proofs.Spaces.{skip_len-ascii, skip_len-beyond}
use borrow.Author.Rules.{rules}
use Rattle.lexer.proofs.Gaps.{white-blank}
use Rattle.lexer.proofs.space.skip_len.Goals as goal

pub returns-then-is_empty-clause-length : goal.returns-then-is_empty-clause-length
unfolding seq_len space_len comment_len skip_len
returns-then-is_empty-clause-length c = rw (empty c.args.s.now (search rules))

pub returns-then-b-gt127-clause-length : goal.returns-then-b-gt127-clause-length
returns-then-b-gt127-clause-length c = c.space_len.ensures.length ∙ sym (skip_len-beyond c.args.s.now (search rules) (search rules))

pub returns-then-is_blank-clause-length : goal.returns-then-is_blank-clause-length
returns-then-is_blank-clause-length c =
    rw (skip_len-ascii c.args.s.now (search rules) (search rules), white-blank _ (search rules) ∙ said c.is_blank.ensures c.if-is_blank.true)

pub overflow_add-result : goal.overflow_add-result
overflow_add-result c = omega (arith, rest-fits line_byte c.args.s.now 1 c.line_len.ensures)

pub returns-then-b-eq59-clause-length : goal.returns-then-b-eq59-clause-length
returns-then-b-eq59-clause-length c =
    let s = c.args.s.now in
    rw (skip_len-ascii s (search rules) (search rules), white-blank _ (search rules) ∙ said c.is_blank.ensures c.if-is_blank.false, ← rest-count line_byte s 1 c.line_len.ensures) (search nums)

pub returns-clause-length : goal.returns-clause-length
returns-clause-length c =
    rw (skip_len-ascii c.args.s.now (search rules) (search rules), white-blank _ (search rules) ∙ said c.is_blank.ensures c.if-is_blank.false) (search nums)
