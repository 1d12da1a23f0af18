-- `put` meets its contract.
-- Assumes nothing.
use mathlib.Core.Path.{refl, sym, ◌∙◌}
use native.Mathlib.Omega.{arith}
use lib.ListN.{length-set}
use Rattle.stream.proofs.Kept.{stored, all_stored, put_front}
use Rattle.stream.proofs.words.put.Goals as goal

pub loop-i-init : goal.loop-i-init
loop-i-init c = (refl, refl)

pub loop-i-preserved : goal.loop-i-preserved
loop-i-preserved c = (simp length-set (omega arith), sym (stored _ _ _ c.loop-i-test.true) ∙ c.loop-i.invariant.1)

pub returns : goal.returns
returns c = sym (all_stored _ _ _ c.loop-i-test.false) ∙ c.loop-i.invariant.1 ∙ put_front c.args.words.now c.args.row.now c.requires
