-- `listing::marks::clear_marks` meets its contract.
-- Assumes nothing.
use mathlib.Core.Path.{refl}
use native.Mathlib.Nat.{not-suc-le-zero}
use native.Mathlib.Omega.{arith}
use Rattle.listing.proofs.Words.{clearing_more, clearing_done}
use Rattle.listing.proofs.marks.clear_marks.Goals as goal

pub loop-i-init : goal.loop-i-init
loop-i-init c = record { low = omega arith; long = refl; zeros = λ j h. absurd (not-suc-le-zero h) }

pub loop-i-preserved : goal.loop-i-preserved
loop-i-preserved c = clearing_more _ _ _ _ c.loop-i.invariant c.loop-i-test.true c.requires

pub returns : goal.returns
returns c = clearing_done _ _ _ _ c.loop-i.invariant (omega arith)
