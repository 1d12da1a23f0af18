-- What the printer asks of rows and of the work area, and what it answers.
-- Assumes nothing.
use Rattle.std.specs.Prelude.{◌≡◌, true, false, List, ℕ, ◌≤◌, ◌<◌, length}
use Rattle.rules.specs.declared.Span.{Span}
use Rattle.rules.specs.declared.Item.{Item}
use Rattle.rules.specs.Out.{Wrote}
use Rattle.rules.specs.Rows.{item_at, statement_at}
use Rattle.rules.specs.Syntax.{Closing}
use Rattle.rules.specs.View.{as_closing}
use Rattle.rules.specs.WellFormed.{statements_owned}
use Rattle.rules.specs.Meaning.{All}
use Rattle.listing.specs.Listing.{none, marked}
use Rattle.listing.specs.References.{references, Sound}
use Rattle.listing.specs.Work.{has_mark, marks_of, Ready}
use Rattle.output.specs.declared.writer.Writer.{Writer}
use Rattle.output.specs.Writing.{Writes}
use Rattle.pieces.specs.declared.Source.{Source}
use Rattle.pieces.specs.Bounds.{Few}
use Rattle.listing.specs.Roots.{first_roots, second_roots}
use Rattle.printer.specs.Rows.{reached, lines_of, item_text, items_text}

-- the text is short, the spans of s counted statement rows are, and the work area is ready for a walk along them
pub record Prepared (text S O : List ℕ) (s : ℕ) (w : List ℕ) : Type 0 where
  pub short : length text ≤ 65536
  pub operands : (i : ℕ) → i < s → Few (statement_at S i).operands
  pub attributes : (i : ℕ) → i < s → Few (statement_at S i).attributes
  pub sound : Sound S O s
  pub ready : Ready S O s w 0

-- row j is one of a span's
abbrev pub Within : Span → ℕ → Type 0
Within span j = (span.first ≤ j) × (j < span.past)

-- an item owns its counted statement rows: its roots are among them, and what they refer to is
pub record Own (S O : List ℕ) (s : ℕ) (r : Item) : Type 0 where
  pub operands : Few r.operands
  pub attributes : Few r.attributes
  pub span : r.statements.first ≤ r.statements.past
  pub counted : r.statements.past ≤ s
  pub first : All (Within r.statements) (first_roots O r)
  pub second : All (Within r.statements) (second_roots O r)
  pub inside : (i : ℕ) → Within r.statements i → All (λ j. r.statements.first ≤ j) (references S O i)

-- n counted items own the s counted statement rows, one behind the other
pub record Owned (I S O : List ℕ) (n s : ℕ) : Type 0 where
  pub few : n ≤ 65536
  pub rows : statements_owned I n s ≡ true
  pub items : (i : ℕ) → i < n → Own S O s (item_at I i)

-- the same of a source
abbrev pub PreparedFor : Source → ℕ → List ℕ → Type 0
PreparedFor x s w = Prepared x.text.now x.statements.now x.operands.now s w

-- what roots list of a source, where those that a work area has marks of are listed already; their lines, and an item's closing lines and text
abbrev pub reached_in : Source → ℕ → List ℕ → List ℕ → List ℕ
reached_in x s w roots = reached x.statements.now x.operands.now s (marks_of w s) roots

abbrev pub lines_in : Source → List ℕ → List ℕ
lines_in x rows = lines_of x.text.now x.statements.now x.operands.now x.attributes.now rows

abbrev pub closing_in : Source → Item → Closing
closing_in x r = as_closing x.text.now x.statements.now x.operands.now x.attributes.now r

abbrev pub text_in : Source → ℕ → Item → List ℕ
text_in x s r = item_text x.text.now x.statements.now x.operands.now x.attributes.now s r

-- roots had their rows listed and marked
pub record RowsPrinted (x : Source) (s : ℕ) (roots w : List ℕ) (b : Writer) (w' : List ℕ) (a : Writer) : Type 0 where
  pub wrote : Writes (lines_in x (reached_in x s w roots)) b a
  pub marks : marks_of w' s ≡ marked (marks_of w s) (reached_in x s w roots)
  pub prepared : PreparedFor x s w'

-- the marks of a span's rows are gone, the others are as they were
pub record Cleared (span : Span) (w w' : List ℕ) : Type 0 where
  pub inside : (i : ℕ) → Within span i → has_mark w' i ≡ false
  pub outside : (i : ℕ) → (Within span i → ⊥) → has_mark w' i ≡ has_mark w i

-- an item was printed, and no mark is left
pub record ItemPrinted (x : Source) (s : ℕ) (r : Item) (b : Writer) (w' : List ℕ) (a : Writer) : Type 0 where
  pub wrote : Writes (text_in x s r) b a
  pub marks : marks_of w' s ≡ none
  pub prepared : PreparedFor x s w'

-- items were printed, and no mark is left
pub record ItemsPrinted (text I S O A : List ℕ) (count s : ℕ) (b w' a : List ℕ) (n : ℕ) : Type 0 where
  pub wrote : Wrote (items_text text I S O A count s) b a n
  pub marks : marks_of w' s ≡ none
  pub prepared : Prepared text S O s w'

-- items were measured, with nothing written
pub record Measured (text I S O A : List ℕ) (count s : ℕ) (b w' a : List ℕ) (n : ℕ) : Type 0 where
  pub length_of : n ≡ length (items_text text I S O A count s)
  pub same : a ≡ b
  pub marks : marks_of w' s ≡ none
  pub prepared : Prepared text S O s w'
