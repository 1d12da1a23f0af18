-- Sections 4 and 8 of docs/RULES.md. What a print answers, and every word and byte that it leaves; which part of the text is a statement's name.
-- Assumes nothing.
use Rattle.std.specs.Prelude.{ℕ, ◌+◌, ◌*◌, ◌≡◌, Bool, cond, not, ◌&&◌, List, [], ◌∷◌, ◌++◌, ltb, length, replicate, drop}
use Rattle.rules.specs.declared.Span.{Span}
use Rattle.rules.specs.Answer.{Answer}
use Rattle.rules.specs.Answer.{Printed, Refused}
use Rattle.rules.specs.Rows.{◌up_to◌, statement_at}
use Rattle.rules.specs.View.{items_of}
use Rattle.rules.specs.Printing.{printed_all}
use Rattle.rules.specs.WellFormed.{Counts, long, is_assignment, well_formed}
use Rattle.rules.specs.Answers.{report_of}

-- the words that a work area needs: by the counted statement and operand rows
unfoldable pub words_needed : Counts → ℕ
words_needed c = 3 * c.statements + c.operands + 1

-- what a print comes to: the tables are not well formed, so many words or bytes are needed, or a text
pub data Print : Type 0 where
  malformed : Print
  more_words : ℕ → Print
  more_bytes : ℕ → Print
  whole : List ℕ → Print

-- the bytes of the items that well-formed tables say
unfoldable pub print_of : List ℕ → List ℕ → List ℕ → List ℕ → List ℕ → Counts → List ℕ
print_of text I S O A c = printed_all (items_of text I S O A c.items)

-- 10 where the output is shorter than the bytes
unfoldable pub fitting : List ℕ → ℕ → Print
fitting s bytes = cond (ltb bytes (length s)) (more_bytes (length s)) (whole s)

-- 8, 9, 10, in that order
unfoldable pub printing : List ℕ → List ℕ → List ℕ → List ℕ → List ℕ → Counts → ℕ → ℕ → Print
printing text I S O A c words bytes =
    cond (not (well_formed text I S O A c)) malformed
    (cond (ltb words (words_needed c)) (more_words (words_needed c))
    (fitting (print_of text I S O A c) bytes))

unfoldable pub print_answer : Print → Answer
print_answer malformed = Refused 8 0
print_answer (more_words n) = Refused 9 n
print_answer (more_bytes n) = Refused 10 n
print_answer (whole s) = Printed (length s)

-- 8 and 9 change nothing lent; past 9 every word of the work area is 0
unfoldable pub work_after : Print → List ℕ → List ℕ
work_after malformed work = work
work_after (more_words n) work = work
work_after (more_bytes n) work = replicate (length work) 0
work_after (whole s) work = replicate (length work) 0

-- an accepted print writes only its own length of the output, and no refusal writes there
unfoldable pub output_after : Print → List ℕ → List ℕ
output_after malformed output = output
output_after (more_words n) output = output
output_after (more_bytes n) output = output
output_after (whole s) output = s ++ drop (length s) output

-- the answer of what a print comes to, and what it leaves
pub record PrintEnds (p : Print) (work output : List ℕ) (r : Answer) (work' output' : List ℕ) : Type 0 where
  pub answers : r ≡ print_answer p
  pub words : work' ≡ work_after p work
  pub bytes : output' ≡ output_after p output

-- a print of a text and four tables with so many rows counted
abbrev pub Prints : List ℕ → List ℕ → List ℕ → List ℕ → List ℕ → Counts → List ℕ → List ℕ → Answer → List ℕ → List ℕ → Type 0
Prints text I S O A c work output = PrintEnds (printing text I S O A c (length work) (length output)) work output

-- the same print, told by a report
pub record PrintReports (text I S O A : List ℕ) (c : Counts) (work output told work' output' : List ℕ) : Type 0 where
  pub tells : told ≡ report_of (print_answer (printing text I S O A c (length work) (length output)))
  pub words : work' ≡ work_after (printing text I S O A c (length work) (length output)) work
  pub bytes : output' ≡ output_after (printing text I S O A c (length work) (length output)) output

-- whether a row of well-formed tables is a counted assignment; the part of the text that is its name, and no part where it is none
unfoldable pub is_named : List ℕ → List ℕ → List ℕ → List ℕ → List ℕ → Counts → ℕ → Bool
is_named text I S O A c row = well_formed text I S O A c && (ltb row c.statements && is_assignment (statement_at S row).code)

unfoldable pub name_part : List ℕ → List ℕ → List ℕ → List ℕ → List ℕ → Counts → ℕ → Span
name_part text I S O A c row = cond (is_named text I S O A c row) (statement_at S row).name (0 up_to 0)

-- a name as a report of six words: 0, its first byte, its length
unfoldable pub name_report : Span → List ℕ
name_report s = 0 ∷ s.first ∷ long s ∷ 0 ∷ 0 ∷ 0 ∷ []
