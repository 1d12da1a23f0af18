-- `listing::marks::is_marked` meets its contract.
-- Assumes nothing.
use mathlib.Core.Path.{refl}
use Rattle.listing.specs.Work.{has_mark}
use Rattle.listing.proofs.marks.is_marked.Goals as goal

pub returns : goal.returns
unfolding has_mark
returns c = refl
