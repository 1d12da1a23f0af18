-- The roots and the closing lines of an item, by its kind.
-- Assumes nothing.
use mathlib.Core.Path.{◌≡◌, refl, ap}
use mathlib.Core.Bool.{Bool, true, false, cond}
use mathlib.Core.List.{List, [], ◌∷◌}
use Prim.Native.Nat.{ℕ, ◌+◌, ◌^◌, ◌≤◌}
use native.Mathlib.Omega.{arith}
use borrow.Author.Tests.{ne_eqb}
use lib.Dec.{eqb}
use lib.ListN.{length}
use Rattle.rules.specs.declared.Item.{Item}
use Rattle.rules.specs.Rows.{name_at, infer_result, candidate, left_hand_side}
use Rattle.rules.specs.Syntax as syntax
use Rattle.rules.specs.View.{along, operand_of, root_attribute_of, as_closing}
use Rattle.rules.specs.Printing.{first_closing, second_closing}
use Rattle.listing.specs.References.{named}
use Rattle.pieces.specs.Bounds.{Few}
use Rattle.pieces.proofs.Bounds.{either}
use Rattle.lines.proofs.Lines.{infer-short, result-short, cand-short}
use Rattle.listing.specs.Roots.{first_roots, second_roots}

module _ (O : List ℕ) (r : Item) where
  pub replacement-roots : r.kind ≡ infer_result → first_roots O r ≡ r.infer ∷ []
  unfolding first_roots
  replacement-roots h = rw h

  pub candidate-roots : r.kind ≡ candidate → first_roots O r ≡ named O r.operands.first 2
  unfolding first_roots
  candidate-roots h = rw h

  pub left-roots : r.kind ≡ left_hand_side → first_roots O r ≡ r.infer ∷ []
  unfolding first_roots
  left-roots h = rw h

  pub right_roots : (r.kind ≡ infer_result → ⊥) → (r.kind ≡ candidate → ⊥) → (r.kind ≡ left_hand_side → ⊥) → first_roots O r ≡ named O r.operands.first 1
  unfolding first_roots
  right_roots h j k = rw (ne_eqb _ _ h, ne_eqb _ _ j, ne_eqb _ _ k)

  pub second-roots : r.kind ≡ infer_result → second_roots O r ≡ named O r.operands.first 1
  unfolding second_roots
  second-roots h = rw h

  pub no_second_roots : (r.kind ≡ infer_result → ⊥) → second_roots O r ≡ []
  unfolding second_roots
  no_second_roots h = rw (ne_eqb _ _ h)

module _ (text S O A : List ℕ) (r : Item) where
  pub replacement-closing : r.kind ≡ infer_result
      → as_closing text S O A r ≡ syntax.infer_result (name_at text S r.infer) (along (root_attribute_of text A) r.attributes) (operand_of text S O r.operands.first)
  unfolding as_closing
  replacement-closing h = rw h

  pub candidate-closing : r.kind ≡ candidate
      → as_closing text S O A r ≡ syntax.cand (operand_of text S O r.operands.first) (operand_of text S O (r.operands.first + 1)) (along (root_attribute_of text A) r.attributes)
  unfolding as_closing
  candidate-closing h = rw h

  pub left-closing : r.kind ≡ left_hand_side → as_closing text S O A r ≡ syntax.infer (name_at text S r.infer) (along (root_attribute_of text A) r.attributes)
  unfolding as_closing
  left-closing h = rw h

  pub right_closing : (r.kind ≡ infer_result → ⊥) → (r.kind ≡ candidate → ⊥) → (r.kind ≡ left_hand_side → ⊥)
      → as_closing text S O A r ≡ syntax.result (operand_of text S O r.operands.first)
  unfolding as_closing
  right_closing h j k = rw (ne_eqb _ _ h, ne_eqb _ _ j, ne_eqb _ _ k)

  -- an item with one closing line has no second
  one_line : (a b : Bool) (x y : syntax.Operand) (n : syntax.Name) (l : List syntax.RootAttribute)
      → second_closing (cond a (syntax.cand x y l) (cond b (syntax.infer n l) (syntax.result x))) [] ≡ []
  one_line true b x y n l = refl
  one_line false true x y n l = refl
  one_line false false x y n l = refl

  abbrev value : syntax.Operand
  value = operand_of text S O r.operands.first

  abbrev second : syntax.Operand
  second = operand_of text S O (r.operands.first + 1)

  abbrev name : syntax.Name
  name = name_at text S r.infer

  abbrev list : List syntax.RootAttribute
  list = along (root_attribute_of text A) r.attributes

  pub no_second_closing : (r.kind ≡ infer_result → ⊥) → second_closing (as_closing text S O A r) [] ≡ []
  unfolding as_closing
  no_second_closing h = rw (ne_eqb _ _ h) (one_line (eqb r.kind candidate) (eqb r.kind left_hand_side) value second name list)

  -- each closing line has at most 2^35 bytes
  module _ (short : length text ≤ 65536) (w : Few r.attributes) where
    pub first_short : length (first_closing (as_closing text S O A r) []) ≤ 2 ^ 35
    unfolding as_closing
    first_short =
        let show : syntax.Closing → List ℕ = λ c. first_closing c [] in
        let third = cond (eqb r.kind left_hand_side) (syntax.infer name list) (syntax.result value) in
        either show (eqb r.kind infer_result) (syntax.infer_result name list value) (cond (eqb r.kind candidate) (syntax.cand value second list) third)
        (infer-short text short S O A r.infer r.attributes w)
        (either show (eqb r.kind candidate) (syntax.cand value second list) third
        (cand-short text short S O A r.operands.first (r.operands.first + 1) r.attributes w)
        (either show (eqb r.kind left_hand_side) (syntax.infer name list) (syntax.result value)
        (infer-short text short S O A r.infer r.attributes w) (result-short text short S O A r.operands.first)))

    pub second_short : length (second_closing (as_closing text S O A r) []) ≤ 2 ^ 35
    unfolding as_closing
    second_short =
        let show : syntax.Closing → List ℕ = λ c. second_closing c [] in
        let third = cond (eqb r.kind left_hand_side) (syntax.infer name list) (syntax.result value) in
        either show (eqb r.kind infer_result) (syntax.infer_result name list value) (cond (eqb r.kind candidate) (syntax.cand value second list) third)
        (result-short text short S O A r.operands.first)
        (omega (arith, ap length (one_line (eqb r.kind candidate) (eqb r.kind left_hand_side) value second name list)))
