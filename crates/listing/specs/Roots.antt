-- An item's roots, by row numbers: those of its first closing line, and the result's where it stands behind an infer.
-- Assumes nothing.
use Rattle.std.specs.Prelude.{ℕ, cond, List, [], ◌∷◌, eqb}
use Rattle.rules.specs.Rows.{infer_result, candidate, left_hand_side}
use Rattle.rules.specs.declared.Item.{Item}
use Rattle.listing.specs.References.{named}

unfoldable pub first_roots : List ℕ → Item → List ℕ
first_roots operands x =
    cond (eqb x.kind infer_result) (x.infer ∷ [])
    (cond (eqb x.kind candidate) (named operands x.operands.first 2)
    (cond (eqb x.kind left_hand_side) (x.infer ∷ [])
    (named operands x.operands.first 1)))

unfoldable pub second_roots : List ℕ → Item → List ℕ
second_roots operands x = cond (eqb x.kind infer_result) (named operands x.operands.first 1) []
