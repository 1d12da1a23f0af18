-- Section 5 of docs/RULES.md. Rows of the four tables, and the words that they are kept as. docs/LAYOUT.md says the same in a table.
-- Assumes nothing.
use Rattle.std.specs.Prelude.{ℕ, ◌+◌, ◌*◌, ◌/◌, ◌%◌, ◌^◌, min, List, [], ◌∷◌, get_or}
use Rattle.rules.specs.declared.Span.{Span}
use Rattle.rules.specs.declared.Words.{Words}
use Rattle.rules.specs.declared.Item.{Item}
use Rattle.rules.specs.declared.Statement.{Statement}
use Rattle.rules.specs.declared.Operand.{Operand}
use Rattle.rules.specs.declared.Attribute.{Attribute}
use Rattle.rules.specs.Bytes.{part}

-- how many words a row of each table has
abbrev pub item_length : ℕ
item_length = 9

abbrev pub statement_length : ℕ
statement_length = 10

abbrev pub operand_length : ℕ
operand_length = 7

abbrev pub attribute_length : ℕ
attribute_length = 11

-- how many rows of a length so many words have room for; counts never pass 65,536
abbrev pub capacity : ℕ → ℕ → ℕ
capacity size words = min 65536 (words / size)

-- codes of items: a replacement by infer and result, a replacement by cand, a left-hand side, a right-hand side
abbrev pub infer_result : ℕ
infer_result = 1

abbrev pub candidate : ℕ
candidate = 2

abbrev pub left_hand_side : ℕ
left_hand_side = 3

abbrev pub right_hand_side : ℕ
right_hand_side = 4

-- codes of statements: an instruction's is its place in the list of instructions and 1; a keyword's its place in the list of keywords and 60
abbrev pub instruction_code : ℕ → ℕ
instruction_code k = k + 1

abbrev pub keyword_code : ℕ → ℕ
keyword_code k = k + 60

-- codes of operands
abbrev pub value_code : ℕ
value_code = 1

abbrev pub constant_code : ℕ
constant_code = 2

-- codes of attributes: knownBits is 1, and a keyword's is its place in the list of keywords less 8, from powerOfTwo, 2, to harvestedFromUse, 10
abbrev pub known_bits_code : ℕ
known_bits_code = 1

abbrev pub power_of_two_code : ℕ
power_of_two_code = 2

abbrev pub has_external_uses_code : ℕ
has_external_uses_code = 6

abbrev pub sign_bits_code : ℕ
sign_bits_code = 7

abbrev pub range_code : ℕ
range_code = 8

abbrev pub demanded_bits_code : ℕ
demanded_bits_code = 9

abbrev pub harvested_from_use_code : ℕ
harvested_from_use_code = 10

-- from one up to another
abbrev pub ◌up_to◌ : ℕ → ℕ → Span
first up_to past = record { first = first; past = past }

infix 80 ◌up_to◌
-- a number below 2^128 as four words, half by half, and back
abbrev pub words_of : ℕ → Words
words_of n =
    record {
      a = n / 2 ^ 64 / 2 ^ 32;
      b = n / 2 ^ 64 % 2 ^ 32;
      c = n % 2 ^ 64 / 2 ^ 32;
      d = n % 2 ^ 64 % 2 ^ 32;
    }

abbrev pub bits_of : Words → ℕ
bits_of w = (w.a * 2 ^ 32 + w.b) * 2 ^ 64 + (w.c * 2 ^ 32 + w.d)

-- the words of a row
unfoldable pub item_words : Item → List ℕ
item_words r =
    r.kind ∷ r.statements.first ∷ r.statements.past ∷ r.middle ∷ r.infer ∷
    r.operands.first ∷ r.operands.past ∷ r.attributes.first ∷ r.attributes.past ∷ []

unfoldable pub statement_words : Statement → List ℕ
statement_words r =
    r.code ∷ r.name.first ∷ r.name.past ∷ r.width ∷ r.number ∷ r.block ∷
    r.operands.first ∷ r.operands.past ∷ r.attributes.first ∷ r.attributes.past ∷ []

unfoldable pub operand_words : Operand → List ℕ
operand_words r = r.code ∷ r.row ∷ r.width ∷ r.bits.a ∷ r.bits.b ∷ r.bits.c ∷ r.bits.d ∷ []

unfoldable pub attribute_words : Attribute → List ℕ
attribute_words r =
    r.code ∷ r.pattern.first ∷ r.pattern.past ∷
    r.low.a ∷ r.low.b ∷ r.low.c ∷ r.low.d ∷
    r.high.a ∷ r.high.b ∷ r.high.c ∷ r.high.d ∷ []

-- word j of row i of a table with rows of a length; a word past the end is 0
abbrev pub field : ℕ → List ℕ → ℕ → ℕ → ℕ
field size words i j = get_or words (i * size + j) 0

-- two words from word j on as a span, and four as 128 bits
abbrev pub span_at : ℕ → List ℕ → ℕ → ℕ → Span
span_at size words i j = field size words i j up_to field size words i (j + 1)

abbrev pub words_at : ℕ → List ℕ → ℕ → ℕ → Words
words_at size words i j =
    record {
      a = field size words i j;
      b = field size words i (j + 1);
      c = field size words i (j + 2);
      d = field size words i (j + 3);
    }

-- row i of a table
unfoldable pub item_at : List ℕ → ℕ → Item
item_at words i =
    record {
      kind = field item_length words i 0;
      statements = span_at item_length words i 1;
      middle = field item_length words i 3;
      infer = field item_length words i 4;
      operands = span_at item_length words i 5;
      attributes = span_at item_length words i 7;
    }

unfoldable pub statement_at : List ℕ → ℕ → Statement
statement_at words i =
    record {
      code = field statement_length words i 0;
      name = span_at statement_length words i 1;
      width = field statement_length words i 3;
      number = field statement_length words i 4;
      block = field statement_length words i 5;
      operands = span_at statement_length words i 6;
      attributes = span_at statement_length words i 8;
    }

unfoldable pub operand_at : List ℕ → ℕ → Operand
operand_at words i =
    record {
      code = field operand_length words i 0;
      row = field operand_length words i 1;
      width = field operand_length words i 2;
      bits = words_at operand_length words i 3;
    }

unfoldable pub attribute_at : List ℕ → ℕ → Attribute
attribute_at words i =
    record {
      code = field attribute_length words i 0;
      pattern = span_at attribute_length words i 1;
      low = words_at attribute_length words i 3;
      high = words_at attribute_length words i 7;
    }

-- the letters of a place in the text
abbrev pub letters_of : List ℕ → Span → List ℕ
letters_of text s = part text s.first s.past

-- the letters of the name of statement row i
unfoldable pub name_at : List ℕ → List ℕ → ℕ → List ℕ
name_at text words i = letters_of text (statement_at words i).name
