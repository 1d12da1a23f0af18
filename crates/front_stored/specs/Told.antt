-- What a program tells of a text that it stores: the file of the rows that the text reads as, or the number and the place of its refusal. And what a program tells of a stored
-- file: the print of what the file holds, or the number and the place of its refusal.
-- Assumes nothing.
use Rattle.std.specs.Prelude.{ℕ, ◌≡◌, List, length}
use Rattle.rules.specs.declared.Entry.{Entry}
use Rattle.rules.specs.Answer.{Answer}
use Rattle.rules.specs.Answer as answer
use Rattle.rules.specs.StoreAnswer.{StoreAnswer}
use Rattle.rules.specs.StoreAnswer as store
use Rattle.rules.specs.World.{Tables}
use Rattle.rules.specs.Answers.{Outcome, accepted, refusal, reading}
use Rattle.rules.specs.Prints.{Print, printing, print_answer, output_after}
use Rattle.rules.specs.Stored.{file_of, fitting_file, storing_answer, stored_output, Room, rows_all, Loading, refused, loads, loading}
use Rattle.front.specs.Told.{room}

-- the file of a text and the rows that it reads as, into an output of so many bytes
unfoldable pub file_told : List ℕ → Tables → List ℕ
file_told text t = file_of text t.items.words t.statements.words t.operands.words t.attributes.words

unfoldable pub answer_told : List ℕ → Outcome → ℕ → StoreAnswer
answer_told text (accepted t) bytes = storing_answer (fitting_file (file_told text t) bytes)
answer_told text (refusal n p) bytes = store.Refused n p

unfoldable pub output_told : List ℕ → Outcome → List ℕ → List ℕ
output_told text (accepted t) output = stored_output (fitting_file (file_told text t) (length output)) output
output_told text (refusal n p) output = output

-- the answer of what a text is read as, and the output as it is left
pub record TellsFile (e : Entry) (text output : List ℕ) (r : StoreAnswer) (output' : List ℕ) : Type 0 where
  pub answers : r ≡ answer_told text (reading e text room) (length output)
  pub bytes : output' ≡ output_told text (reading e text room) output

-- what a program lends to a load: as many words as to a read, and a text
abbrev pub load_room : Room
load_room = record { text = 65536; items = 294912; statements = 218460; operands = 458752; attributes = 240306 }

-- the print of what a file holds, in a work area of 131,073 words
abbrev pub print_held : List ℕ → List ℕ → List ℕ → List ℕ → List ℕ → ℕ → Print
print_held text I S O A bytes = printing text I S O A (rows_all I S O A) 131073 bytes

unfoldable pub answer_held : Loading → ℕ → Answer
answer_held (refused n) bytes = answer.Refused n 0
answer_held (loads text I S O A) bytes = print_answer (print_held text I S O A bytes)

unfoldable pub output_held : Loading → List ℕ → List ℕ
output_held (refused n) output = output
output_held (loads text I S O A) output = output_after (print_held text I S O A (length output)) output

-- the answer of what a file is loaded as, and the output as it is left
pub record TellsPrint (file output : List ℕ) (r : Answer) (output' : List ℕ) : Type 0 where
  pub answers : r ≡ answer_held (loading file load_room) (length output)
  pub bytes : output' ≡ output_held (loading file load_room) output
