-- `listing::marks::clear_marks` meets its contract.
-- Assumes nothing.
use Rattle.listing.proofs.Words.{Clearing}
use Rattle.listing.proofs.marks.clear_marks.Given as goal

abbrev pub invariant-loop-i : goal.invariant-loop-i
invariant-loop-i l = Clearing l.initial.work l.rows l.work l.i
