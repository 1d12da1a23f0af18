use native.Mathlib.Omega.{arith}
use Rattle.laws.proofs.Runs.{count_more}
use Rattle.laws.proofs.Tests.{nums}
use Rattle.utf8.specs.Ascii.{ascii}
use Rattle.utf8.proofs.Passes.{passes_ascii, passes_seq}
use borrow.Author.Rules.{rules}
use Rattle.utf8.proofs.run_len.Goals as goal

pub returns-then-s-le127-clause-passes : goal.returns-then-s-le127-clause-passes
returns-then-s-le127-clause-passes c = passes_ascii c.args.s.now (search rules) (search rules) c.ascii_len.ensures

pub returns-then-s-le127-clause-some : goal.returns-then-s-le127-clause-some
unfolding ascii
returns-then-s-le127-clause-some c =
    omega (arith, c.ascii_len.ensures, count_more ascii c.args.s.now 0 (search rules) (search nums))

pub returns-clause-passes : goal.returns-clause-passes
returns-clause-passes c = passes_seq c.args.s.now c.seq_len.ensures.length
