use borrow.Author.Rules.{rules}
use Rattle.laws.proofs.Tests.{said}
use Rattle.utf8.proofs.Ascii.{begins_none, begins-block}
use Rattle.utf8.proofs.ascii_blocks.Goals as goal

pub loop-i-init : goal.loop-i-init
loop-i-init c = begins_none c.args.s.now

pub loop-i-preserved : goal.loop-i-preserved
loop-i-preserved c =
    begins-block c.loop-i.invariant 32 (search rules) (said c.all_ascii.ensures c.if-all_ascii.true)
