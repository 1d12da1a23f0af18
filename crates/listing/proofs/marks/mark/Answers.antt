-- `listing::marks::mark` meets its contract.
-- Assumes nothing.
use mathlib.Core.Path.{refl}
use Rattle.listing.specs.Work.{with_mark}
use Rattle.listing.proofs.marks.mark.Goals as goal

pub returns : goal.returns
unfolding with_mark
returns c = refl
