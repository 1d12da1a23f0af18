-- Section 5 of docs/RULES.md. What rows say: from the text and the words of the four tables to items with names for references and numbers for numbers.
-- Every function is total: whatever the words are, they are seen as something. WellFormed says which words say items that can be printed and read back, one by one;
-- an entry point reads items of its own kinds alone, while the rows of well-formed tables may be of all four kinds.
-- Assumes nothing.
use Rattle.std.specs.Prelude.{ℕ, zero, suc, ◌+◌, ◌-◌, cond, List, [], ◌∷◌, eqb}
use Rattle.rules.specs.declared.Span.{Span}
use Rattle.rules.specs.declared.Item.{Item}
use Rattle.rules.specs.declared.Statement.{Statement}
use Rattle.rules.specs.declared.Operand.{Operand}
use Rattle.rules.specs.declared.Attribute.{Attribute}
use Rattle.rules.specs.Keywords as keyword
use Rattle.rules.specs.Rows.{◌up_to◌, bits_of, letters_of, name_at, item_at, statement_at, operand_at, attribute_at, infer_result, candidate, left_hand_side, keyword_code, value_code, known_bits_code, sign_bits_code, demanded_bits_code}
use Rattle.rules.specs.Reading.{attribute_code}
use Rattle.rules.specs.Syntax as syntax

-- what f gives for n rows from one on, and for the rows of a span
abbrev pub each : {A : Type 0} → (ℕ → A) → ℕ → ℕ → List A
each f first zero = []
each f first (suc n) = f first ∷ each f (first + 1) n

abbrev pub along : {A : Type 0} → (ℕ → A) → Span → List A
along f s = each f s.first (s.past - s.first)

-- a type by its width: 0 is none
abbrev pub typing_of : ℕ → syntax.Typing
typing_of width = cond (eqb width 0) syntax.untyped (syntax.typed width)

-- Operands: a value by the name of the statement that it refers to, or a constant

unfoldable pub as_operand : List ℕ → List ℕ → Operand → syntax.Operand
as_operand text S r =
    cond (eqb r.code value_code) (syntax.value (name_at text S r.row))
    (syntax.constant (bits_of r.bits) (typing_of r.width))

unfoldable pub operand_of : List ℕ → List ℕ → List ℕ → ℕ → syntax.Operand
operand_of text S O i = as_operand text S (operand_at O i)

-- Attributes, by their codes

unfoldable pub as_attribute : List ℕ → Attribute → syntax.Attribute
as_attribute text r =
    cond (eqb r.code known_bits_code) (syntax.known_bits (letters_of text r.pattern))
    (cond (eqb r.code (attribute_code keyword.power_of_two)) syntax.power_of_two
    (cond (eqb r.code (attribute_code keyword.negative)) syntax.negative
    (cond (eqb r.code (attribute_code keyword.non_negative)) syntax.non_negative
    (cond (eqb r.code (attribute_code keyword.non_zero)) syntax.non_zero
    (cond (eqb r.code (attribute_code keyword.has_external_uses)) syntax.has_external_uses
    (cond (eqb r.code sign_bits_code) (syntax.sign_bits (bits_of r.low))
    (syntax.range (bits_of r.low) (bits_of r.high))))))))

unfoldable pub attribute_of : List ℕ → List ℕ → ℕ → syntax.Attribute
attribute_of text A i = as_attribute text (attribute_at A i)

unfoldable pub as_root_attribute : List ℕ → Attribute → syntax.RootAttribute
as_root_attribute text r =
    cond (eqb r.code demanded_bits_code) (syntax.demanded_bits (letters_of text r.pattern)) syntax.harvested_from_use

unfoldable pub root_attribute_of : List ℕ → List ℕ → ℕ → syntax.RootAttribute
root_attribute_of text A i = as_root_attribute text (attribute_at A i)

-- Statements, by their codes

-- what stands right of '='
unfoldable pub as_side : List ℕ → List ℕ → List ℕ → Statement → syntax.RightSide
as_side text S O r =
    cond (eqb r.code (keyword_code keyword.var)) syntax.var
    (cond (eqb r.code (keyword_code keyword.block)) (syntax.block r.number)
    (cond (eqb r.code (keyword_code keyword.phi)) (syntax.phi (name_at text S r.block) (along (operand_of text S O) r.operands))
    (cond (eqb r.code (keyword_code keyword.reservedinst)) syntax.reservedinst
    (cond (eqb r.code (keyword_code keyword.reservedconst)) syntax.reservedconst
    (syntax.instruction (r.code - 1) (along (operand_of text S O) r.operands))))))

unfoldable pub side_of : List ℕ → List ℕ → List ℕ → ℕ → syntax.RightSide
side_of text S O i = as_side text S O (statement_at S i)

-- a condition's two operands are the first two of its span
unfoldable pub as_statement : List ℕ → List ℕ → List ℕ → List ℕ → Statement → syntax.Statement
as_statement text S O A r =
    cond (eqb r.code (keyword_code keyword.pc))
    (syntax.pc (operand_of text S O r.operands.first) (operand_of text S O (r.operands.first + 1)))
    (cond (eqb r.code (keyword_code keyword.blockpc))
    (syntax.blockpc (name_at text S r.block) r.number (operand_of text S O r.operands.first) (operand_of text S O (r.operands.first + 1)))
    (syntax.assignment
    (record {
      name = letters_of text r.name;
      typing = typing_of r.width;
      side = as_side text S O r;
      attributes = along (attribute_of text A) r.attributes;
    })))

unfoldable pub statement_of : List ℕ → List ℕ → List ℕ → List ℕ → ℕ → syntax.Statement
statement_of text S O A i = as_statement text S O A (statement_at S i)

-- Items, by their kinds

-- an item's own operands are those of result or cand, its own attributes those of infer or cand
unfoldable pub as_closing : List ℕ → List ℕ → List ℕ → List ℕ → Item → syntax.Closing
as_closing text S O A r =
    cond (eqb r.kind infer_result)
    (syntax.infer_result (name_at text S r.infer) (along (root_attribute_of text A) r.attributes) (operand_of text S O r.operands.first))
    (cond (eqb r.kind candidate)
    (syntax.cand (operand_of text S O r.operands.first) (operand_of text S O (r.operands.first + 1)) (along (root_attribute_of text A) r.attributes))
    (cond (eqb r.kind left_hand_side)
    (syntax.infer (name_at text S r.infer) (along (root_attribute_of text A) r.attributes))
    (syntax.result (operand_of text S O r.operands.first))))

-- the statements before the first closing line end at the item's middle, where those between infer and result begin
unfoldable pub as_item : List ℕ → List ℕ → List ℕ → List ℕ → Item → syntax.Item
as_item text S O A r =
    record {
      before = along (statement_of text S O A) (r.statements.first up_to r.middle);
      between = along (statement_of text S O A) (r.middle up_to r.statements.past);
      closing = as_closing text S O A r;
    }

unfoldable pub item_of : List ℕ → List ℕ → List ℕ → List ℕ → List ℕ → ℕ → syntax.Item
item_of text I S O A i = as_item text S O A (item_at I i)

-- the items of the first n item rows
unfoldable pub items_of : List ℕ → List ℕ → List ℕ → List ℕ → List ℕ → ℕ → List syntax.Item
items_of text I S O A n = each (item_of text I S O A) 0 n
