-- `printer::listed::put_before` meets its contract.
-- Assumes nothing.
use mathlib.Core.Path.{subst}
use Prim.Native.Nat.{◌<◌}
use Rattle.rules.specs.Meaning.{All}
use Rattle.printer.proofs.Roots.{rows_as}
use Rattle.printer.proofs.ByKind.{replacement-roots, candidate-roots, left-roots, right_roots}
use Rattle.printer.proofs.listed.put_before.Goals as goal

pub put_listed-requires : goal.put_listed-requires
put_listed-requires c = record { prepared = c.requires.prepared; root_lt_rows = (subst (All (λ j. j < c.args.rows)) (replacement-roots _ c.args.item c.if-item-eq-INFER_RESULT.true) c.requires.roots_inside).0 }

pub returns-then-item-eq-INFER_RESULT : goal.returns-then-item-eq-INFER_RESULT
returns-then-item-eq-INFER_RESULT c = rows_as _ _ (replacement-roots _ c.args.item c.if-item-eq-INFER_RESULT.true) c.put_listed.ensures

pub put_both_roots-requires : goal.put_both_roots-requires
put_both_roots-requires c = record { prepared = c.requires.prepared; i_bound = c.requires.first_bound; roots_inside = subst (All (λ j. j < c.args.rows)) (candidate-roots _ c.args.item c.if-two_roots.true) c.requires.roots_inside }

pub returns-then-two_roots : goal.returns-then-two_roots
returns-then-two_roots c = rows_as _ _ (candidate-roots _ c.args.item c.if-two_roots.true) c.put_both_roots.ensures

pub put_listed-requires-then-item-eq-LEFT_HAND_SIDE : goal.put_listed-requires-then-item-eq-LEFT_HAND_SIDE
put_listed-requires-then-item-eq-LEFT_HAND_SIDE c = record { prepared = c.requires.prepared; root_lt_rows = (subst (All (λ j. j < c.args.rows)) (left-roots _ c.args.item c.if-item-eq-LEFT_HAND_SIDE.true) c.requires.roots_inside).0 }

pub returns-then-item-eq-LEFT_HAND_SIDE : goal.returns-then-item-eq-LEFT_HAND_SIDE
returns-then-item-eq-LEFT_HAND_SIDE c = rows_as _ _ (left-roots _ c.args.item c.if-item-eq-LEFT_HAND_SIDE.true) c.put_listed-then-item-eq-LEFT_HAND_SIDE.ensures

pub put_root-requires : goal.put_root-requires
put_root-requires c = record { prepared = c.requires.prepared; roots_inside = subst (All (λ j. j < c.args.rows)) (right_roots _ c.args.item c.if-item-eq-INFER_RESULT.false c.if-two_roots.false c.if-item-eq-LEFT_HAND_SIDE.false) c.requires.roots_inside }

pub returns : goal.returns
returns c = rows_as _ _ (right_roots _ c.args.item c.if-item-eq-INFER_RESULT.false c.if-two_roots.false c.if-item-eq-LEFT_HAND_SIDE.false) c.put_root.ensures
