-- Programs: functions from all that a call is asked and lent to an answer, and to lent memory as it is left, of which the contract holds.
-- Assumes nothing.
use Rattle.std.specs.Prelude.{ℕ, ◌≤◌, ◌≡◌, List, take}
use Rattle.rules.specs.declared.Entry.{Entry}
use Rattle.rules.specs.Answer.{Answer}
use Rattle.rules.specs.WellFormed.{Counts}
use Rattle.rules.specs.Answers.{Reads, report_of, print_report, refusal_report}
use Rattle.rules.specs.Prints.{Prints}
use Rattle.rules.specs.Calls.{Call, counts_of}

-- ---- readers
-- what is made of all that a read is asked and lent: an entry point, a text and four tables
abbrev pub OfRead : Type 0 → Type 0
OfRead X = Entry → List ℕ → List ℕ → List ℕ → List ℕ → List ℕ → X

pub record Reader : Type 0 where
  pub answers : OfRead Answer
  pub items : OfRead (List ℕ)
  pub statements : OfRead (List ℕ)
  pub operands : OfRead (List ℕ)
  pub attributes : OfRead (List ℕ)
  pub keeps : (e : Entry) (text I S O A : List ℕ)
      → Reads e text I S O A (answers e text I S O A) (items e text I S O A) (statements e text I S O A) (operands e text I S O A) (attributes e text I S O A)

-- an answer that is a refusal
abbrev pub IsRefused : Answer → Type 0
IsRefused r = (n : ℕ) × (p : ℕ) × (1 ≤ n) × (report_of r ≡ refusal_report n p)

-- ---- printers
-- what is made of all that a print is asked and lent: a text, four tables and their counts, a work area and an output
abbrev pub OfPrint : Type 0 → Type 0
OfPrint X = List ℕ → List ℕ → List ℕ → List ℕ → List ℕ → Counts → List ℕ → List ℕ → X

pub record Printer : Type 0 where
  pub answers : OfPrint Answer
  pub work : OfPrint (List ℕ)
  pub output : OfPrint (List ℕ)
  pub keeps : (text I S O A : List ℕ) (c : Counts) (w o : List ℕ) → Prints text I S O A c w o (answers text I S O A c w o) (work text I S O A c w o) (output text I S O A c w o)

-- what a printer answers to what a read left, and what it leaves in the output
abbrev pub answers_to : {e : Entry} → Printer → Call e → List ℕ → List ℕ → Answer
answers_to f c w o = f.answers c.text c.I' c.S' c.O' c.A' (counts_of c) w o

abbrev pub output_to : {e : Entry} → Printer → Call e → List ℕ → List ℕ → List ℕ
output_to f c w o = f.output c.text c.I' c.S' c.O' c.A' (counts_of c) w o

-- whenever it answers 0, it wrote those bytes
abbrev pub Writes : {e : Entry} → Printer → Call e → List ℕ → Type 0
Writes f c s = (w o : List ℕ) (n : ℕ) → report_of (answers_to f c w o) ≡ print_report n → take n (output_to f c w o) ≡ s
