-- What the lent tables stand for in the definition of reading.
-- Assumes nothing.
use Rattle.std.specs.Prelude.{ℕ, ◌+◌, ◌*◌, ◌≡◌, Bool, true, List, ◌++◌, ltb, length, take}
use Rattle.rules.specs.declared.Counts.{Counts}
use Rattle.rules.specs.Rows.{item_length, statement_length, operand_length, attribute_length, capacity}
use Rattle.rules.specs.Answers.{padded}
use Rattle.rules.specs.World.{Table, Tables}

-- a table of n rows so far
abbrev pub table : ℕ → ℕ → List ℕ → Table
table size n words = record { cap = capacity size (length words); count = n; words = take (n * size) words }

-- the four tables
abbrev pub tables : Counts → List ℕ → List ℕ → List ℕ → List ℕ → Tables
tables n I S O A =
    record {
      items = table item_length n.items I;
      statements = table statement_length n.statements S;
      operands = table operand_length n.operands O;
      attributes = table attribute_length n.attributes A;
    }

-- a row claimed in a table behind n others: whether there is room for it, and the words with it
pub record Claimed (old : List ℕ) (n : ℕ) (row : List ℕ) (r : Bool) (new : List ℕ) : Type 0 where
  pub room : r ≡ ltb n (capacity (length row) (length old))
  pub words : r ≡ true → take ((n + 1) * length row) new ≡ take (n * length row) old ++ row
  pub long : length new ≡ length old

-- tables with zeros behind the rows that are counted
pub record Cleared (n : Counts) (I S O A I' S' O' A' : List ℕ) : Type 0 where
  pub items : I' ≡ padded (length I) (take (n.items * item_length) I)
  pub statements : S' ≡ padded (length S) (take (n.statements * statement_length) S)
  pub operands : O' ≡ padded (length O) (take (n.operands * operand_length) O)
  pub attributes : A' ≡ padded (length A) (take (n.attributes * attribute_length) A)
