-- What a program tells of a text: the print of the items that it reads as, or the number and the place of its refusal.
-- Assumes nothing.
use Rattle.std.specs.Prelude.{ℕ, ◌≡◌, List, length}
use Rattle.rules.specs.declared.Entry.{Entry}
use Rattle.rules.specs.Answer.{Answer}
use Rattle.rules.specs.Answer as answer
use Rattle.rules.specs.View.{items_of}
use Rattle.rules.specs.Printing.{printed_all}
use Rattle.rules.specs.World.{Tables}
use Rattle.rules.specs.Answers.{Lent, Outcome, accepted, refusal, reading}
use Rattle.rules.specs.Prints.{Print, fitting, print_answer, output_after}

-- the words of the tables that a program lends: 32,768 rows of items, 21,846 of statements and attributes, 65,536 of operands
abbrev pub room : Lent
room = record { items = 294912; statements = 218460; operands = 458752; attributes = 240306 }

-- the print of the items that tables say, into an output of so many bytes
unfoldable pub print_told : List ℕ → Tables → ℕ → Print
print_told text t bytes = fitting (printed_all (items_of text t.items.words t.statements.words t.operands.words t.attributes.words t.items.count)) bytes

unfoldable pub answer_told : List ℕ → Outcome → ℕ → Answer
answer_told text (accepted t) bytes = print_answer (print_told text t bytes)
answer_told text (refusal n p) bytes = answer.Refused n p

unfoldable pub output_told : List ℕ → Outcome → List ℕ → List ℕ
output_told text (accepted t) output = output_after (print_told text t (length output)) output
output_told text (refusal n p) output = output

-- the answer of what a text is read as, and the output as it is left
pub record Tells (e : Entry) (text output : List ℕ) (r : Answer) (output' : List ℕ) : Type 0 where
  pub answers : r ≡ answer_told text (reading e text room) (length output)
  pub bytes : output' ≡ output_told text (reading e text room) output
