-- A print call of tables that a caller or a file brings, and which entry point reads the items that they say.
-- Assumes nothing.
use Rattle.std.specs.Prelude.{ℕ, ◌≡◌, List, [], ◌∷◌, take}
use Rattle.rules.specs.declared.Entry.{Entry}
use Rattle.rules.specs.declared.Entry.TheVariants.{Replacements, LeftHandSides, RightHandSides}
use Rattle.rules.specs.Answer.{Answer}
use Rattle.rules.specs.Syntax.{Closing, infer_result, cand, infer, result, Item}
use Rattle.rules.specs.Meaning.{All}
use Rattle.rules.specs.View.{items_of}
use Rattle.rules.specs.WellFormed.{Counts}
use Rattle.rules.specs.Answers.{report_of, print_report}
use Rattle.rules.specs.Prints.{Prints}

-- a text, four tables with so many rows counted, and a print of them that answered 0 with so many bytes written
pub record TablesPrint : Type 0 where
  pub text : List ℕ
  pub I : List ℕ
  pub S : List ℕ
  pub O : List ℕ
  pub A : List ℕ
  pub counts : Counts
  pub work : List ℕ
  pub output : List ℕ
  pub bytes : ℕ
  pub work' : List ℕ
  pub output' : List ℕ
  pub answer : Answer
  pub tells : report_of answer ≡ print_report bytes
  pub prints : Prints text I S O A counts work output answer work' output'

-- the items that the tables say, and the bytes that the print wrote
abbrev pub items_in : TablesPrint → List Item
items_in p = items_of p.text p.I p.S p.O p.A p.counts.items

abbrev pub wrote : TablesPrint → List ℕ
wrote p = take p.bytes p.output'

-- the entry point that reads an item, by its closing lines; and those of a list of items
abbrev pub read_by : Closing → Entry
read_by (infer_result n l o) = Replacements
read_by (cand x y l) = Replacements
read_by (infer n l) = LeftHandSides
read_by (result o) = RightHandSides

abbrev pub kinds : List Item → List Entry
kinds [] = []
kinds (x ∷ xs) = read_by x.closing ∷ kinds xs

-- items that are all of the kinds that one entry point reads
abbrev pub ReadBy : Entry → List Item → Type 0
ReadBy e = All (λ x. read_by x.closing ≡ e)
