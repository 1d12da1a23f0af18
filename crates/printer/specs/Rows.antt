-- What items print as, by row numbers: which statement rows each lists, and their lines around its closing lines.
-- Assumes nothing.
use Rattle.std.specs.Prelude.{ℕ, List, [], map}
use Rattle.rules.specs.declared.Item.{Item}
use Rattle.rules.specs.Out.{joined}
use Rattle.rules.specs.Rows.{item_at}
use Rattle.rules.specs.View.{each, statement_of, as_closing}
use Rattle.rules.specs.Printing.{lines, laid}
use Rattle.listing.specs.Listing.{Marks, none, marked, listing}
use Rattle.listing.specs.References.{refers}
use Rattle.listing.specs.Roots.{first_roots, second_roots}

-- what roots list of s counted statement rows, where those with a mark are listed already
unfoldable pub reached : List ℕ → List ℕ → ℕ → Marks → List ℕ → List ℕ
reached S O s m roots = listing (refers S O s) s m roots

-- the lines of statement rows
unfoldable pub lines_of : List ℕ → List ℕ → List ℕ → List ℕ → List ℕ → List ℕ
lines_of text S O A rows = lines (map (statement_of text S O A) rows) []

-- the rows that an item lists before its first closing line, and those between infer and result
unfoldable pub rows_before : List ℕ → List ℕ → ℕ → Item → List ℕ
rows_before S O s r = reached S O s none (first_roots O r)

unfoldable pub rows_between : List ℕ → List ℕ → ℕ → Item → List ℕ
rows_between S O s r = reached S O s (marked none (rows_before S O s r)) (second_roots O r)

-- what an item prints as; and what the first n do, one after the other
unfoldable pub item_text : List ℕ → List ℕ → List ℕ → List ℕ → ℕ → Item → List ℕ
item_text text S O A s r =
    laid (map (statement_of text S O A) (rows_before S O s r)) (map (statement_of text S O A) (rows_between S O s r)) (as_closing text S O A r) []

unfoldable pub items_text : List ℕ → List ℕ → List ℕ → List ℕ → List ℕ → ℕ → ℕ → List ℕ
items_text text I S O A n s = joined (each (λ i. item_text text S O A s (item_at I i)) 0 n)
