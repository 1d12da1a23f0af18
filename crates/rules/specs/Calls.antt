-- What the promises speak of: a read call that answered 0, and a print call of what it left that answered 0.
-- `Reads` and `Prints` are what the public calls ensure of their answers and of all that they are lent, so what is promised of these holds of what a caller has in hand.
-- Assumes nothing.
use Rattle.std.specs.Prelude.{ℕ, ◌*◌, ◌≤◌, ◌≡◌, List, length, take}
use Rattle.rules.specs.declared.Entry.{Entry}
use Rattle.rules.specs.Answer.{Answer}
use Rattle.rules.specs.Rows.{item_length, statement_length, operand_length, attribute_length}
use Rattle.rules.specs.Syntax.{Item}
use Rattle.rules.specs.View.{items_of}
use Rattle.rules.specs.WellFormed.{Counts, counts}
use Rattle.rules.specs.Answers.{Lent, Reads, report_of, read_report, print_report}
use Rattle.rules.specs.Prints.{Prints}

-- words enough for as many rows of each table as a text has bytes
pub record AsManyRows (text : List ℕ) (l : Lent) : Type 0 where
  pub items : item_length * length text ≤ l.items
  pub statements : statement_length * length text ≤ l.statements
  pub operands : operand_length * length text ≤ l.operands
  pub attributes : attribute_length * length text ≤ l.attributes

-- a read call that answered 0 with four counts: the text and the tables lent to it, its answer, and the tables as it left them
pub record Call (e : Entry) : Type 0 where
  pub text : List ℕ
  pub I : List ℕ
  pub S : List ℕ
  pub O : List ℕ
  pub A : List ℕ
  pub items : ℕ
  pub statements : ℕ
  pub operands : ℕ
  pub attributes : ℕ
  pub I' : List ℕ
  pub S' : List ℕ
  pub O' : List ℕ
  pub A' : List ℕ
  pub answer : Answer
  pub tells : report_of answer ≡ read_report items statements operands attributes
  pub reads : Reads e text I S O A answer I' S' O' A'

-- the rows that it counted
abbrev pub counts_of : {e : Entry} → Call e → Counts
counts_of c = counts c.items c.statements c.operands c.attributes

-- the items that its tables say
abbrev pub said_by : {e : Entry} → Call e → List Item
said_by c = items_of c.text c.I' c.S' c.O' c.A' c.items

-- a print call of what a read call left, with a work area and an output: its answer, and the two as it left them
abbrev pub PrintsOf : {e : Entry} → Call e → List ℕ → List ℕ → Answer → List ℕ → List ℕ → Type 0
PrintsOf c = Prints c.text c.I' c.S' c.O' c.A' (counts_of c)

-- one that answered 0 with so many bytes written
pub record Print (e : Entry) : Type 0 where
  pub call : Call e
  pub work : List ℕ
  pub output : List ℕ
  pub bytes : ℕ
  pub work' : List ℕ
  pub output' : List ℕ
  pub answer : Answer
  pub tells : report_of answer ≡ print_report bytes
  pub prints : PrintsOf call work output answer work' output'

-- the bytes that it wrote
abbrev pub written : {e : Entry} → Print e → List ℕ
written p = take p.bytes p.output'
