-- `printer::listed::put_both_roots` meets its contract.
-- Assumes nothing.
use Rattle.printer.proofs.Roots.{named_both, first-low, second-low, rows_as, rows_both}
use Rattle.printer.proofs.listed.put_both_roots.Goals as goal

pub put_root-requires : goal.put_root-requires
put_root-requires c = record { prepared = c.requires.prepared; roots_inside = first-low _ _ _ c.requires.roots_inside }

pub put_root-requires-2 : goal.put_root-requires-2
put_root-requires-2 c = record { prepared = c.put_root.ensures.prepared; roots_inside = second-low _ _ _ c.requires.roots_inside }

pub returns : goal.returns
returns c = rows_as _ _ (named_both _ _) (rows_both _ _ _ _ c.requires.prepared c.put_root.ensures c.put_root-2.ensures)
