-- `printer::listed::put_between` meets its contract.
-- Assumes nothing.
use mathlib.Core.Path.{subst}
use Prim.Native.Nat.{◌<◌}
use Rattle.rules.specs.Meaning.{All}
use Rattle.printer.proofs.Roots.{rows_none, rows_as}
use Rattle.printer.proofs.ByKind.{second-roots, no_second_roots}
use Rattle.printer.proofs.listed.put_between.Goals as goal

pub put_root-requires : goal.put_root-requires
put_root-requires c = record { prepared = c.requires.prepared; roots_inside = subst (All (λ j. j < c.args.rows)) (second-roots _ c.args.item c.if-item-eq-INFER_RESULT.true) c.requires.roots_inside }

pub returns-then-item-eq-INFER_RESULT : goal.returns-then-item-eq-INFER_RESULT
returns-then-item-eq-INFER_RESULT c = rows_as _ _ (second-roots _ c.args.item c.if-item-eq-INFER_RESULT.true) c.put_root.ensures

pub returns-else-item-eq-INFER_RESULT : goal.returns-else-item-eq-INFER_RESULT
returns-else-item-eq-INFER_RESULT c = rows_as _ _ (no_second_roots _ c.args.item c.if-item-eq-INFER_RESULT.false) (rows_none _ _ _ c.requires.prepared)
