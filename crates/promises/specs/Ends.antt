-- The ways in which a call ends, by its report: a line of the table in docs/RULES.md to each, with its place and all lent memory afterwards.
-- Assumes nothing.
use Rattle.std.specs.Prelude.{ℕ, ◌+◌, ◌-◌, ◌*◌, ◌≤◌, ◌<◌, ◌≡◌, true, false, List, ◌++◌, length, replicate, drop, Ok}
use Rattle.rules.specs.declared.Token.{Token}
use Rattle.rules.specs.declared.Lexed.TheVariants.{Found, End, Refused}
use Rattle.rules.specs.declared.Span.{Span}
use Rattle.rules.specs.Utf8.{checked, bad_at}
use Rattle.rules.specs.Tokens as kind
use Rattle.rules.specs.Tokens.{nth}
use Rattle.rules.specs.Rows.{◌up_to◌, item_length, statement_length, operand_length, attribute_length, letters_of, statement_at}
use Rattle.rules.specs.WellFormed.{Counts, well_formed, is_assignment, is_name}
use Rattle.rules.specs.Answers.{read_report, print_report, refusal_report}
use Rattle.rules.specs.Prints.{words_needed, print_of}
use Rattle.promises.specs.Sequences.{FirstBad}

-- ---- reads
-- a table as it was lent and as it is left: n rows of so many words each, and zeros behind them
pub record RowsLeft (size n : ℕ) (lent_table left : List ℕ) : Type 0 where
  pub rows : List ℕ
  pub long : length rows ≡ n * size
  pub fit : n * size ≤ length lent_table
  pub behind : left ≡ rows ++ replicate (length lent_table - n * size) 0

-- all words 0
abbrev pub cleared : List ℕ → List ℕ
cleared T = replicate (length T) 0

-- where a refusal of a well-formed text stands; `nth` is what the lexer finds, one by one
pub data Placed (text : List ℕ) : ℕ → ℕ → Type 0 where
  -- 3: where the lexer refuses
  no_token : (i p : ℕ) → nth text i ≡ Refused p → Placed text 3 p
  -- 4: at a token, or, where the text has ended, at its last byte
  wrong_token : (i : ℕ) (t : Token) → nth text i ≡ Found t → Placed text 4 t.first
  text_ended : (i : ℕ) → nth text i ≡ End → Placed text 4 (length text - 1)
  -- 5: at an integer
  bad_integer : (i : ℕ) (t : Token) → nth text i ≡ Found t → t.kind ≡ kind.int → Placed text 5 t.first
  -- 6: at a value name
  bad_name : (i : ℕ) (t : Token) → nth text i ≡ Found t → t.kind ≡ kind.val_name → Placed text 6 t.first
  -- 7: at a token
  no_row : (i : ℕ) (t : Token) → nth text i ≡ Found t → Placed text 7 t.first

pub data ReadEnd (text I S O A : List ℕ) : List ℕ → List ℕ → List ℕ → List ℕ → List ℕ → Type 0 where
  -- 0: so many rows, and no more of them than the text has bytes
  read : (i s o a : ℕ) {I' S' O' A' : List ℕ} → length text ≤ 65536 → checked text ≡ Ok tt → i + s + o + a ≤ length text
      → RowsLeft item_length i I I' → RowsLeft statement_length s S S' → RowsLeft operand_length o O O' → RowsLeft attribute_length a A A'
      → ReadEnd text I S O A (read_report i s o a) I' S' O' A'
  -- 1: a text longer than 65,536 bytes
  too_long : 65536 < length text → ReadEnd text I S O A (refusal_report 1 65536) (cleared I) (cleared S) (cleared O) (cleared A)
  -- 2: not well-formed UTF-8, at the first byte of the first bad sequence
  ill_formed : (p : ℕ) → length text ≤ 65536 → checked text ≡ bad_at p → FirstBad text p → ReadEnd text I S O A (refusal_report 2 p) (cleared I) (cleared S) (cleared O) (cleared A)
  -- 3 to 7, each at its place, in the text or just past it
  refused : (n p : ℕ) → length text ≤ 65536 → checked text ≡ Ok tt → Placed text n p → p ≤ length text → ReadEnd text I S O A (refusal_report n p) (cleared I) (cleared S) (cleared O) (cleared A)

module _ (text I S O A : List ℕ) (c : Counts) where
  -- ---- prints
  -- what the tables print to, where they are well formed
  abbrev s : List ℕ
  s = print_of text I S O A c

  pub data PrintEnd (work output : List ℕ) : List ℕ → List ℕ → List ℕ → Type 0 where
    -- 8: tables not well formed; nothing lent is changed
    not_well_formed : well_formed text I S O A c ≡ false → PrintEnd work output (refusal_report 8 0) work output
    -- 9: work area too short, and the words needed; nothing lent is changed
    few_words : well_formed text I S O A c ≡ true → length work < words_needed c → PrintEnd work output (refusal_report 9 (words_needed c)) work output
    -- 10: output too short, and the bytes needed; the work area is 0, the output as it was
    few_bytes : well_formed text I S O A c ≡ true → words_needed c ≤ length work → length output < length s → PrintEnd work output (refusal_report 10 (length s)) (cleared work) output
    -- 0: bytes written; the work area is 0, and of the output only its own length is written
    printed : well_formed text I S O A c ≡ true → words_needed c ≤ length work → length s ≤ length output → PrintEnd work output (print_report (length s)) (cleared work) (s ++ drop (length s) output)

  -- the conditions of these four
  abbrev pub NoTables : Type 0
  NoTables = well_formed text I S O A c ≡ false

  abbrev pub FewWords : List ℕ → Type 0
  FewWords work = (well_formed text I S O A c ≡ true) × (length work < words_needed c)

  abbrev pub FewBytes : List ℕ → List ℕ → Type 0
  FewBytes work output = (well_formed text I S O A c ≡ true) × (words_needed c ≤ length work) × (length output < length s)

  abbrev pub Enough : List ℕ → List ℕ → Type 0
  Enough work output = (well_formed text I S O A c ≡ true) × (words_needed c ≤ length work) × (length s ≤ length output)

  -- ---- names
  pub data NameEnd (row : ℕ) : Span → Type 0 where
    -- a counted assignment of well-formed tables: a part of the text, which is '%' and one or more name bytes
    named : well_formed text I S O A c ≡ true → row < c.statements → is_assignment (statement_at S row).code ≡ true
        → (statement_at S row).name.first < (statement_at S row).name.past → (statement_at S row).name.past ≤ length text → is_name (letters_of text (statement_at S row).name) ≡ true
        → NameEnd row (statement_at S row).name
    -- the empty part: tables not well formed, a row past the count, a row that is no assignment
    of_no_tables : well_formed text I S O A c ≡ false → NameEnd row (0 up_to 0)
    of_no_row : well_formed text I S O A c ≡ true → c.statements ≤ row → NameEnd row (0 up_to 0)
    of_no_assignment : well_formed text I S O A c ≡ true → row < c.statements → is_assignment (statement_at S row).code ≡ false → NameEnd row (0 up_to 0)
