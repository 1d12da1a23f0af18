-- What is asked of the counted rows; and how many rows bytes of whole rows are.
-- Assumes nothing.
use Rattle.std.specs.Prelude.{ℕ, ◌*◌, ◌/◌, ◌≡◌, Bool, ◌&&◌, List, leb, length}
use Rattle.rules.specs.Rows.{item_length, statement_length, operand_length, attribute_length}
use Rattle.rules.specs.WellFormed.{Counts, counts, rows_owned, items_ok}

-- the last two clauses of `well_formed`
unfoldable pub rows_ok : List ℕ → List ℕ → List ℕ → List ℕ → List ℕ → Counts → Bool
rows_ok text I S O A c = rows_owned I S c && items_ok text I S O A c.items

-- four counts are up to 65,536
unfoldable pub few : ℕ → ℕ → ℕ → ℕ → Bool
few i s o a = leb i 65536 && (leb s 65536 && (leb o 65536 && leb a 65536))

-- how many rows of a length bytes are, and that they are whole rows
abbrev pub rows_in : ℕ → List ℕ → ℕ
rows_in size bytes = length bytes / (size * 4)

pub record Whole (size : ℕ) (bytes : List ℕ) : Type 0 where
  pub rows : length bytes ≡ rows_in size bytes * (size * 4)

abbrev pub counted : List ℕ → List ℕ → List ℕ → List ℕ → Counts
counted items statements operands attributes =
    counts (rows_in item_length items) (rows_in statement_length statements) (rows_in operand_length operands) (rows_in attribute_length attributes)
