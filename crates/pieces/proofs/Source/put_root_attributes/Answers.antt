-- `pieces::Source::put_root_attributes` meets its contract.
-- Assumes nothing.
use native.Mathlib.Omega.{arith}
use Rattle.laws.proofs.Pieces.{next as one_more, stop}
use Rattle.rules.specs.View.{each}
use Rattle.output.proofs.Words.{begins, first, next, last, left_as}
use Rattle.pieces.proofs.Wholes.{root_attributes_joined, enclosed_pieces}
use Rattle.pieces.proofs.Source.put_root_attributes.Goals as goal

pub loop-i-init : goal.loop-i-init
loop-i-init c = begins _ (root_attributes_joined _ c.args.span)

pub loop-i-preserved : goal.loop-i-preserved
loop-i-preserved c = next (left_as (one_more (each _ _) _ _ c.loop-i-test.true) c.loop-i.invariant) (last (next (next (first (enclosed_pieces _) c.put.ensures) c.put_root_attribute.ensures) c.put-in-loop-i.ensures))

pub returns : goal.returns
returns c = last (left_as (stop (each _ _) _ _ (omega arith)) c.loop-i.invariant)
