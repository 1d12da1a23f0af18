-- Rows that are the same but for places say the same items.
-- Assumes nothing.
use Prim.Native.Nat.{ℕ, ◌+◌, ◌-◌}
use mathlib.Core.Path.{◌≡◌, fun_ext}
use mathlib.Core.Bool.{cond}
use mathlib.Core.List.{List}
use lib.Dec.{eqb}
use Rattle.rules.specs.declared.Item.{Item}
use Rattle.rules.specs.declared.Statement.{Statement}
use Rattle.rules.specs.declared.Attribute.{Attribute}
use Rattle.rules.specs.Keywords as keyword
use Rattle.rules.specs.Rows.{◌up_to◌, bits_of, name_at, item_at, operand_at, statement_words, attribute_words, infer_result, candidate, left_hand_side, keyword_code, value_code}
use Rattle.rules.specs.Syntax as syntax
use Rattle.rules.specs.View.{each, along, typing_of, as_operand, operand_of, as_attribute, attribute_of, as_root_attribute, root_attribute_of, as_side, as_statement, statement_of, as_closing, as_item, item_of, items_of}
use Rattle.spacing.proofs.Lined.{Statements, statements, Attributes, attributes, Lined, statement_alike, attribute_alike, name_alike}

module _ {x y S S' A A' : List ℕ} (s : Lined statement_words (Statements x y) S S') (z : Lined attribute_words (Attributes x y) A A') (O : List ℕ) where
  names : name_at x S ≡ name_at y S'
  names = fun_ext (name_alike s)

  operands : operand_of x S O ≡ operand_of y S' O
  unfolding operand_of as_operand
  operands = λ j i. cond (eqb (operand_at O i).code value_code) (syntax.value (names j (operand_at O i).row)) (syntax.constant (bits_of (operand_at O i).bits) (typing_of (operand_at O i).width))

  attribute_same : (r r' : Attribute) → Attributes x y r r' → as_attribute x r ≡ as_attribute y r'
  unfolding as_attribute
  attribute_same _ _ (attributes code low high p p' e) = rw e

  root_same : (r r' : Attribute) → Attributes x y r r' → as_root_attribute x r ≡ as_root_attribute y r'
  unfolding as_root_attribute
  root_same _ _ (attributes code low high p p' e) = rw e

  attributes_same : attribute_of x A ≡ attribute_of y A'
  unfolding attribute_of
  attributes_same = fun_ext (λ i. attribute_same _ _ (attribute_alike z i))

  roots_same : root_attribute_of x A ≡ root_attribute_of y A'
  unfolding root_attribute_of
  roots_same = fun_ext (λ i. root_same _ _ (attribute_alike z i))

  statement_same : (r r' : Statement) → Statements x y r r' → as_statement x S O A r ≡ as_statement y S' O A' r'
  unfolding as_statement as_side
  statement_same _ _ (statements code width number block o a n n' e) =
      λ j.
      cond (eqb code (keyword_code keyword.pc))
      (syntax.pc (operands j o.first) (operands j (o.first + 1)))
      (cond (eqb code (keyword_code keyword.blockpc))
      (syntax.blockpc (names j block) number (operands j o.first) (operands j (o.first + 1)))
      (syntax.assignment
      (record {
        name = e j;
        typing = typing_of width;
        side =
            cond (eqb code (keyword_code keyword.var)) syntax.var
            (cond (eqb code (keyword_code keyword.block)) (syntax.block number)
            (cond (eqb code (keyword_code keyword.phi)) (syntax.phi (names j block) (along (operands j) o))
            (cond (eqb code (keyword_code keyword.reservedinst)) syntax.reservedinst
            (cond (eqb code (keyword_code keyword.reservedconst)) syntax.reservedconst
            (syntax.instruction (code - 1) (along (operands j) o))))));
        attributes = along (attributes_same j) a;
      })))

  statements_same : statement_of x S O A ≡ statement_of y S' O A'
  unfolding statement_of
  statements_same = fun_ext (λ i. statement_same _ _ (statement_alike s i))

  item_same : (r : Item) → as_item x S O A r ≡ as_item y S' O A' r
  unfolding as_item as_closing
  item_same r =
      λ j.
      record {
        before = along (statements_same j) (r.statements.first up_to r.middle);
        between = along (statements_same j) (r.middle up_to r.statements.past);
        closing =
            cond (eqb r.kind infer_result)
            (syntax.infer_result (names j r.infer) (along (roots_same j) r.attributes) (operands j r.operands.first))
            (cond (eqb r.kind candidate)
            (syntax.cand (operands j r.operands.first) (operands j (r.operands.first + 1)) (along (roots_same j) r.attributes))
            (cond (eqb r.kind left_hand_side)
            (syntax.infer (names j r.infer) (along (roots_same j) r.attributes))
            (syntax.result (operands j r.operands.first))));
      }

  -- the first n items
  pub items_same : (I : List ℕ) (n : ℕ) → items_of x I S O A n ≡ items_of y I S' O A' n
  unfolding items_of item_of
  items_same I n = λ j. each (λ i. item_same (item_at I i) j) 0 n
