-- `skim` meets its contract. The loop's invariant: what is left, from between tokens, comes to what all of it comes to.
-- Assumes nothing.
use native.Mathlib.Omega.{arith}
use Rattle.stream.proofs.Passing.{blanks_first, further, skim_more}
use Rattle.stream.proofs.skim.skim.Goals as goal

pub loop-past-init : goal.loop-past-init
loop-past-init c = let s = c.args.s.now in blanks_first s c.args.count c.blanks-past.ensures

pub overflow_add-past-in-loop-past : goal.overflow_add-past-in-loop-past
overflow_add-past-in-loop-past c = let m = further c.args.s.now c.loop-past.past _ c.loop-past.invariant.0 (c.token_len.ensures _ c.in-Some.is) c.blanks-past-in-loop-past.ensures in omega arith

pub loop-past-preserved : goal.loop-past-preserved
loop-past-preserved c = let l = c.loop-past in skim_more c.args.s.now l.past c.args.count l.n l.invariant.0 l.invariant.1 (c.token_len.ensures _ c.in-Some.is) c.blanks-past-in-loop-past.ensures c.more-n.ensures
