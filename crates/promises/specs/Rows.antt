-- What the lent rows decide of a read: rows enough, rows that fit, and what two reads of one text have in common.
-- Assumes nothing.
use Rattle.std.specs.Prelude.{ℕ, ◌*◌, ◌≤◌, ◌≡◌, List, length}
use Rattle.rules.specs.declared.Entry.{Entry}
use Rattle.rules.specs.Answer.{Answer}
use Rattle.rules.specs.Rows.{item_length, statement_length, operand_length, attribute_length, capacity}
use Rattle.rules.specs.Answers.{Lent, answer_of, padded, reading, report_of, refusal_report}

-- words for as many rows of each table as a text has bytes
abbrev pub row_for_each_byte : List ℕ → Lent
row_for_each_byte text =
    record {
      items = item_length * length text;
      statements = statement_length * length text;
      operands = operand_length * length text;
      attributes = attribute_length * length text;
    }

-- the definition's answer to a text, as a report
unfoldable pub answer_to : Entry → List ℕ → List ℕ
answer_to e text = report_of (answer_of (reading e text (row_for_each_byte text)))

-- an answer that is not 7
abbrev pub IsNotSeven : Answer → Type 0
IsNotSeven r = (p : ℕ) → report_of r ≡ refusal_report 7 p → ⊥

-- tables with words for so many rows
pub record RowsFit (l : Lent) (i s o a : ℕ) : Type 0 where
  pub items : i ≤ capacity item_length l.items
  pub statements : s ≤ capacity statement_length l.statements
  pub operands : o ≤ capacity operand_length l.operands
  pub attributes : a ≤ capacity attribute_length l.attributes

-- two tables that begin with the same rows, and are 0 behind them; each was lent so many words
pub record SameRows (n n₁ : ℕ) (T T₁ : List ℕ) : Type 0 where
  pub rows : List ℕ
  pub one : T ≡ padded n rows
  pub other : T₁ ≡ padded n₁ rows

-- tables with no fewer words than others
pub record NoShorter (l l' : Lent) : Type 0 where
  pub items : l.items ≤ l'.items
  pub statements : l.statements ≤ l'.statements
  pub operands : l.operands ≤ l'.operands
  pub attributes : l.attributes ≤ l'.attributes
