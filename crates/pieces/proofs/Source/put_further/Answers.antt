-- `pieces::Source::put_further` meets its contract.
-- Assumes nothing.
use native.Mathlib.Omega.{arith}
use Rattle.laws.proofs.Pieces.{next as one_more, stop}
use Rattle.rules.specs.View.{each}
use Rattle.output.proofs.Words.{begins, next, last, left_as}
use Rattle.pieces.proofs.Wholes.{further-joined}
use Rattle.pieces.proofs.Source.put_further.Goals as goal

pub loop-i-init : goal.loop-i-init
loop-i-init c = begins _ (further-joined _ c.args.span)

pub loop-i-preserved : goal.loop-i-preserved
loop-i-preserved c = next (left_as (one_more (each _ _) _ _ c.loop-i-test.true) c.loop-i.invariant) c.put_next.ensures

pub returns : goal.returns
returns c = last (left_as (stop (each _ _) _ _ (omega arith)) c.loop-i.invariant)
