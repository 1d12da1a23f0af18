-- Section 4 of docs/RULES.md. Answers: which number and place of the table a reading gets, and every word of the lent tables.
-- Assumes nothing.
use Rattle.std.specs.Prelude.{ℕ, ◌-◌, ◌≡◌, cond, List, [], ◌∷◌, ◌++◌, eqb, ltb, length, replicate, Ok, Err}
use Rattle.rules.specs.declared.Entry.{Entry}
use Rattle.rules.specs.Answer.{Answer}
use Rattle.rules.specs.Answer as answer
use Rattle.rules.specs.Utf8.{checked, Checked}
use Rattle.rules.specs.Faults as fault
use Rattle.rules.specs.Rows.{item_length, statement_length, operand_length, attribute_length, capacity}
use Rattle.rules.specs.World.{World, Table, Tables, Res, go, stop}
use Rattle.rules.specs.Reading.{nothing, items}

-- how many words each table has been lent
pub record Lent : Type 0 where
  pub items : ℕ
  pub statements : ℕ
  pub operands : ℕ
  pub attributes : ℕ

abbrev pub lent : List ℕ → List ℕ → List ℕ → List ℕ → Lent
lent I S O A = record { items = length I; statements = length S; operands = length O; attributes = length A }

-- a table of so many words, with no row claimed
abbrev pub empty : ℕ → ℕ → Table
empty size words = record { cap = capacity size words; count = 0; words = [] }

-- the world at the start of a text
unfoldable pub start : List ℕ → Lent → World
start text l =
    record {
      text = text;
      stand = record { at = 0; ahead = nothing; last = nothing };
      scope = 0;
      tables =
          record {
            items = empty item_length l.items;
            statements = empty statement_length l.statements;
            operands = empty operand_length l.operands;
            attributes = empty attribute_length l.attributes;
          };
    }

-- the number of a fault
unfoldable pub fault_number : ℕ → ℕ
fault_number f =
    cond (eqb f fault.lexer) 3
    (cond (eqb f fault.token) 4
    (cond (eqb f fault.end) 4
    (cond (eqb f fault.integer) 5
    (cond (eqb f fault.unknown) 6
    (cond (eqb f fault.redefined) 6
    (cond (eqb f fault.no_block) 6
    (cond (eqb f fault.no_row) 7 0)))))))

-- what a reading came to: four tables, or a number and a place
pub data Outcome : Type 0 where
  accepted : Tables → Outcome
  refusal : ℕ → ℕ → Outcome

unfoldable pub outcome : Res (Unit {0}) → Outcome
outcome (go u w) = accepted w.tables
outcome (stop f t) = refusal (fault_number f) t.first

-- 2 over the whole text, then 3 to 7, whichever comes first while reading left to right
unfoldable pub read_checked : Checked → Entry → List ℕ → Lent → Outcome
read_checked (Ok u) e text l = outcome (items e (start text l))
read_checked (Err p) e text l = refusal 2 p.at

-- 1 by the length alone, before any byte is looked at
unfoldable pub reading : Entry → List ℕ → Lent → Outcome
reading e text l = cond (ltb 65536 (length text)) (refusal 1 65536) (read_checked (checked text) e text l)

unfoldable pub answer_of : Outcome → Answer
answer_of (accepted t) = answer.Read t.items.count t.statements.count t.operands.count t.attributes.count
answer_of (refusal n p) = answer.Refused n p

-- the words of the rows that an outcome leaves in a table: none after a refusal
unfoldable pub rows_of : (Tables → Table) → Outcome → List ℕ
rows_of f (accepted t) = (f t).words
rows_of f (refusal n p) = []

-- words with zeros behind them, up to so many
unfoldable pub padded : ℕ → List ℕ → List ℕ
padded n ws = ws ++ replicate (n - length ws) 0

-- Every word of every lent table as a read returns: the rows of its outcome, and zeros behind them. I S O A are the tables as they were lent.
pub record Leaves (o : Outcome) (I S O A I' S' O' A' : List ℕ) : Type 0 where
  pub items : I' ≡ padded (length I) (rows_of (λ t. t.items) o)
  pub statements : S' ≡ padded (length S) (rows_of (λ t. t.statements) o)
  pub operands : O' ≡ padded (length O) (rows_of (λ t. t.operands) o)
  pub attributes : A' ≡ padded (length A) (rows_of (λ t. t.attributes) o)

-- an outcome's answer, and what it leaves
pub record Ends (o : Outcome) (I S O A : List ℕ) (r : Answer) (I' S' O' A' : List ℕ) : Type 0 where
  pub answers : r ≡ answer_of o
  pub leaves : Leaves o I S O A I' S' O' A'

-- what a read of a text answers, and what it leaves
abbrev pub Reads : Entry → List ℕ → List ℕ → List ℕ → List ℕ → List ℕ → Answer → List ℕ → List ℕ → List ℕ → List ℕ → Type 0
Reads e text I S O A = Ends (reading e text (lent I S O A)) I S O A

-- Reports of six words: number, place, and the four counts; of a print number, and bytes written.
-- A read that is accepted with so many rows of each table; a print that is accepted with so many bytes; a refusal, by its number and its place
abbrev pub read_report : ℕ → ℕ → ℕ → ℕ → List ℕ
read_report i s o a = 0 ∷ 0 ∷ i ∷ s ∷ o ∷ a ∷ []

abbrev pub print_report : ℕ → List ℕ
print_report n = 0 ∷ n ∷ 0 ∷ 0 ∷ 0 ∷ 0 ∷ []

abbrev pub refusal_report : ℕ → ℕ → List ℕ
refusal_report n p = n ∷ p ∷ 0 ∷ 0 ∷ 0 ∷ 0 ∷ []

-- the number and the values of each answer, as the table of section 4 has them
unfoldable pub report_of : Answer → List ℕ
report_of (answer.Read i s o a) = read_report i s o a
report_of (answer.Printed n) = print_report n
report_of (answer.Refused n p) = refusal_report n p

-- the same read, told by a report
pub record Reports (e : Entry) (text I S O A told I' S' O' A' : List ℕ) : Type 0 where
  pub tells : told ≡ report_of (answer_of (reading e text (lent I S O A)))
  pub leaves : Leaves (reading e text (lent I S O A)) I S O A I' S' O' A'
