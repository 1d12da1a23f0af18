-- What a row says, told by its code: whatever holds of each of the things that a row can say holds of what it says.
-- Assumes nothing.
use Prim.Native.Nat.{ℕ, ◌+◌, ◌-◌}
use mathlib.Core.Path.{◌≡◌}
use mathlib.Core.Bool.{Bool, false}
use mathlib.Core.List.{List}
use lib.Dec.{eqb}
use borrow.Author.Tests.{eqb-true}
use Rattle.rules.specs.declared.Item.{Item}
use Rattle.rules.specs.declared.Statement.{Statement}
use Rattle.rules.specs.Keywords as keyword
use Rattle.rules.specs.Rows.{name_at, letters_of, keyword_code, infer_result, candidate, left_hand_side}
use Rattle.rules.specs.Syntax as syntax
use Rattle.rules.specs.View.{along, typing_of, operand_of, attribute_of, root_attribute_of, as_side, as_statement, as_closing}
use Rattle.laws.proofs.Same.{by_cond}

module _ (text S O A : List ℕ) where
  -- ---- a statement, by its row's code
  module _ (r : Statement) where
    abbrev is : ℕ → Bool
    is k = eqb r.code (keyword_code k)

    abbrev Code : ℕ → Type 0
    Code k = r.code ≡ keyword_code k

    abbrev pub operands : List syntax.Operand
    operands = along (operand_of text S O) r.operands

    abbrev pub first_of : syntax.Operand
    first_of = operand_of text S O r.operands.first

    abbrev pub second_of : syntax.Operand
    second_of = operand_of text S O (r.operands.first + 1)

    pub by_side : (P : syntax.RightSide → Type 0) → (Code keyword.var → P syntax.var) → (Code keyword.block → P (syntax.block r.number))
        → (Code keyword.phi → P (syntax.phi (name_at text S r.block) operands)) → (Code keyword.reservedinst → P syntax.reservedinst) → (Code keyword.reservedconst → P syntax.reservedconst)
        → (is keyword.var ≡ false → is keyword.block ≡ false → is keyword.phi ≡ false → is keyword.reservedinst ≡ false → is keyword.reservedconst ≡ false → P (syntax.instruction (r.code - 1) operands))
        → P (as_side text S O r)
    unfolding as_side
    by_side P var block phi inst const other =
        by_cond P (is keyword.var) _ _ (λ e. var (eqb-true _ _ e)) (λ n₁.
        by_cond P (is keyword.block) _ _ (λ e. block (eqb-true _ _ e)) (λ n₂.
        by_cond P (is keyword.phi) _ _ (λ e. phi (eqb-true _ _ e)) (λ n₃.
        by_cond P (is keyword.reservedinst) _ _ (λ e. inst (eqb-true _ _ e)) (λ n₄.
        by_cond P (is keyword.reservedconst) _ _ (λ e. const (eqb-true _ _ e)) (λ n₅. other n₁ n₂ n₃ n₄ n₅)))))

    abbrev pub assigned : syntax.Assignment
    assigned =
        record {
          name = letters_of text r.name;
          typing = typing_of r.width;
          side = as_side text S O r;
          attributes = along (attribute_of text A) r.attributes;
        }

    pub by_statement : (P : syntax.Statement → Type 0) → (Code keyword.pc → P (syntax.pc first_of second_of)) → (Code keyword.blockpc → P (syntax.blockpc (name_at text S r.block) r.number first_of second_of))
        → (is keyword.pc ≡ false → is keyword.blockpc ≡ false → P (syntax.assignment assigned)) → P (as_statement text S O A r)
    unfolding as_statement
    by_statement P pc blockpc other =
        by_cond P (is keyword.pc) _ _ (λ e. pc (eqb-true _ _ e)) (λ n₁. by_cond P (is keyword.blockpc) _ _ (λ e. blockpc (eqb-true _ _ e)) (λ n₂. other n₁ n₂))

  -- ---- an item's closing lines, by its kind
  module _ (r : Item) where
    abbrev of_kind : ℕ → Bool
    of_kind k = eqb r.kind k

    abbrev pub roots : List syntax.RootAttribute
    roots = along (root_attribute_of text A) r.attributes

    abbrev pub closing_first : syntax.Operand
    closing_first = operand_of text S O r.operands.first

    abbrev pub closing_second : syntax.Operand
    closing_second = operand_of text S O (r.operands.first + 1)

    pub by_closing : (P : syntax.Closing → Type 0) → (r.kind ≡ infer_result → P (syntax.infer_result (name_at text S r.infer) roots closing_first))
        → (r.kind ≡ candidate → P (syntax.cand closing_first closing_second roots)) → (r.kind ≡ left_hand_side → P (syntax.infer (name_at text S r.infer) roots))
        → (of_kind infer_result ≡ false → of_kind candidate ≡ false → of_kind left_hand_side ≡ false → P (syntax.result closing_first)) → P (as_closing text S O A r)
    unfolding as_closing
    by_closing P both cand left other =
        by_cond P (of_kind infer_result) _ _ (λ e. both (eqb-true _ _ e)) (λ n₁.
        by_cond P (of_kind candidate) _ _ (λ e. cand (eqb-true _ _ e)) (λ n₂.
        by_cond P (of_kind left_hand_side) _ _ (λ e. left (eqb-true _ _ e)) (λ n₃. other n₁ n₂ n₃)))
