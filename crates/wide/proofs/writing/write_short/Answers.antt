use native.Mathlib.Omega.{arith}
use Rattle.wide.proofs.Short.{one_unwritten, one_written, two_unwritten, two_written}
use Rattle.wide.proofs.writing.write_short.Goals as goal

pub returns-then-out-lt1 : goal.returns-then-out-lt1
returns-then-out-lt1 c = one_unwritten c.args.n c.args.out.now (omega arith) (omega arith)

pub returns-then-n-lt10 : goal.returns-then-n-lt10
returns-then-n-lt10 c = one_written c.args.n c.args.out.now (omega arith) (omega arith)

pub returns-then-out-lt2 : goal.returns-then-out-lt2
returns-then-out-lt2 c = two_unwritten c.args.n c.args.out.now (omega arith) (omega arith) (omega arith)

pub returns : goal.returns
returns c = two_written c.args.n c.args.out.now (omega arith) (omega arith) (omega arith)
