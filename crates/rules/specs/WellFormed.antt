-- Section 6 of docs/RULES.md. Which tables are well formed: each clause a test with a sentence of its own, and `well_formed` all of them. Of a test against 0 the clause is "unused words 0".
-- They stand in the order in which they are tested: spans of rows are known to lie one behind the other before anything goes along them.
-- Assumes nothing.
use Rattle.std.specs.Prelude.{ℕ, ◌-◌, ◌*◌, ◌^◌, Bool, true, cond, not, ◌&&◌, ◌||◌, List, [], ◌∷◌, ◌++◌, eqb, leb, ltb, length, get_or, drop}
use Rattle.rules.specs.declared.Span.{Span}
use Rattle.rules.specs.declared.Words.{Words}
use Rattle.rules.specs.declared.Item.{Item}
use Rattle.rules.specs.declared.Statement.{Statement}
use Rattle.rules.specs.declared.Operand.{Operand}
use Rattle.rules.specs.declared.Attribute.{Attribute}
use Rattle.rules.specs.Bytes.{byte, inside, name_byte, pattern_byte, bit, count, same}
use Rattle.rules.specs.Instructions.{arity_of}
use Rattle.rules.specs.Keywords as keyword
use Rattle.rules.specs.Rows.{◌up_to◌, item_length, statement_length, operand_length, attribute_length, capacity, letters_of, name_at, item_at, statement_at, operand_at, attribute_at, infer_result, candidate, left_hand_side, right_hand_side, instruction_code, keyword_code, value_code, constant_code, known_bits_code, sign_bits_code, range_code, demanded_bits_code, harvested_from_use_code}
use Rattle.rules.specs.Syntax.{flat}
use Rattle.rules.specs.View.{each, along}

-- how many rows of each table are counted
pub record Counts : Type 0 where
  pub items : ℕ
  pub statements : ℕ
  pub operands : ℕ
  pub attributes : ℕ

abbrev pub counts : ℕ → ℕ → ℕ → ℕ → Counts
counts i s o a = record { items = i; statements = s; operands = o; attributes = a }

-- every test of a list is passed; every number of a list passes a test
abbrev pub every : List Bool → Bool
every [] = true
every (t ∷ l) = t && every l

abbrev pub only : (ℕ → Bool) → List ℕ → Bool
only p l = eqb (count p l) (length l)

-- The text, the counts and the words

-- the text has at most 65,536 bytes
unfoldable pub short_text : List ℕ → Bool
short_text text = leb (length text) 65536

-- a count is within the capacity, which is never more than 65,536
unfoldable pub count_fits : ℕ → List ℕ → ℕ → Bool
count_fits size words n = leb n (capacity size (length words))

-- words have 32 bits
unfoldable pub word_fits : ℕ → Bool
word_fits w = ltb w (2 ^ 32)

-- words that no counted row has are unused, and 0
unfoldable pub is_zero : ℕ → Bool
is_zero w = eqb w 0

unfoldable pub rest_unused : ℕ → List ℕ → ℕ → Bool
rest_unused size words n = only is_zero (drop (n * size) words)

-- each by itself, a table is so
unfoldable pub table_ok : ℕ → List ℕ → ℕ → Bool
table_ok size words n = count_fits size words n && (only word_fits words && rest_unused size words n)

-- Spans of rows

-- how many rows a span has
abbrev pub long : Span → ℕ
long s = s.past - s.first

-- rows are consecutive, inside the count and each owned exactly once: of the spans that own them, in reading order, the first begins at 0,
-- each other where the one before it ended, and the last ends at the count
abbrev pub consecutive : ℕ → ℕ → List Span → Bool
consecutive at past [] = eqb at past
consecutive at past (s ∷ l) = eqb s.first at && (leb at s.past && consecutive s.past past l)

-- the spans of an item's operands: those of its statements, then that of its closing lines
unfoldable pub operand_spans : List ℕ → Item → List Span
operand_spans S r = along (λ i. (statement_at S i).operands) r.statements ++ (r.operands ∷ [])

-- the spans of an item's attributes: that of its closing line stands between those of the statements before the item's middle and those from it on
unfoldable pub attribute_spans : List ℕ → Item → List Span
attribute_spans S r =
    along (λ i. (statement_at S i).attributes) (r.statements.first up_to r.middle)
    ++ (r.attributes ∷ along (λ i. (statement_at S i).attributes) (r.middle up_to r.statements.past))

-- the first n items' statements, operands, attributes
unfoldable pub statements_owned : List ℕ → ℕ → ℕ → Bool
statements_owned I n past = consecutive 0 past (each (λ i. (item_at I i).statements) 0 n)

unfoldable pub operands_owned : List ℕ → List ℕ → ℕ → ℕ → Bool
operands_owned I S n past = consecutive 0 past (flat (operand_spans S) (each (item_at I) 0 n))

unfoldable pub attributes_owned : List ℕ → List ℕ → ℕ → ℕ → Bool
attributes_owned I S n past = consecutive 0 past (flat (attribute_spans S) (each (item_at I) 0 n))

-- only between infer and result are there statements behind an item's middle
unfoldable pub middle_ok : Item → Bool
middle_ok r =
    cond (eqb r.kind infer_result)
    (leb r.statements.first r.middle && leb r.middle r.statements.past)
    (eqb r.middle r.statements.past)

-- an item's kind is one of the four
unfoldable pub kind_ok : Item → Bool
kind_ok r = inside infer_result right_hand_side r.kind && middle_ok r

-- Names and patterns

-- '%' and one or more name bytes
unfoldable pub is_name : List ℕ → Bool
is_name s = leb 2 (length s) && (eqb (get_or s 0 0) (byte "%") && only name_byte (drop 1 s))

-- one or more letters, all of the right ones
unfoldable pub is_pattern : (ℕ → Bool) → List ℕ → Bool
is_pattern p s = leb 1 (length s) && only p s

-- each in the text
unfoldable pub name_in : List ℕ → Span → Bool
name_in text s = leb s.past (length text) && is_name (letters_of text s)

unfoldable pub pattern_in : (ℕ → Bool) → List ℕ → Span → Bool
pattern_in p text s = leb s.past (length text) && is_pattern p (letters_of text s)

-- an unused span
unfoldable pub no_span : Span → Bool
no_span s = eqb s.first 0 && eqb s.past 0

-- names are distinct: no statement from one up to row i has the name of row i
unfoldable pub new_name : List ℕ → List ℕ → ℕ → ℕ → Bool
new_name text S first i = every (along (λ k. not (same (name_at text S k) (name_at text S i))) (first up_to i))

-- References

-- the codes of statements: instructions first, then the other assignments, then the two conditions
unfoldable pub is_instruction : ℕ → Bool
is_instruction c = inside (instruction_code 0) (instruction_code 58) c

unfoldable pub is_assignment : ℕ → Bool
is_assignment c = inside (instruction_code 0) (keyword_code keyword.reservedconst) c

unfoldable pub is_condition : ℕ → Bool
is_condition c = inside (keyword_code keyword.pc) (keyword_code keyword.blockpc) c

-- row i is one from a row up to another
unfoldable pub among : ℕ → ℕ → ℕ → Bool
among first past i = leb first i && ltb i past

-- a reference names an assignment among those statements
unfoldable pub refers_to : List ℕ → ℕ → ℕ → ℕ → Bool
refers_to S first past i = among first past i && is_assignment (statement_at S i).code

-- a block reference names a block among them
unfoldable pub refers_to_block : List ℕ → ℕ → ℕ → ℕ → Bool
refers_to_block S first past i = among first past i && eqb (statement_at S i).code (keyword_code keyword.block)

-- Operands and attributes

-- four words are a number up to n
unfoldable pub at_most : ℕ → Words → Bool
at_most n w = eqb w.a 0 && (eqb w.b 0 && (eqb w.c 0 && leb w.d n))

-- a type's width is up to 65535, 0 for none
unfoldable pub width_fits : ℕ → Bool
width_fits w = leb w 65535

-- a value refers to an assignment from one up to another, and has no width and no bits
unfoldable pub value_ok : List ℕ → ℕ → ℕ → Operand → Bool
value_ok S first past r = refers_to S first past r.row && (eqb r.width 0 && at_most 0 r.bits)

-- a constant has any bits, a width that a type has, and no row
unfoldable pub constant_ok : Operand → Bool
constant_ok r = eqb r.code constant_code && (eqb r.row 0 && width_fits r.width)

-- an operand is one of the two
unfoldable pub operand_ok : List ℕ → ℕ → ℕ → Operand → Bool
operand_ok S first past r = cond (eqb r.code value_code) (value_ok S first past r) (constant_ok r)

-- all operands of a span are so
unfoldable pub operands_ok : List ℕ → List ℕ → ℕ → ℕ → Span → Bool
operands_ok S O first past s = every (along (λ i. operand_ok S first past (operand_at O i)) s)

-- knownBits and demandedBits have a pattern, each of its own letters; the others have none
unfoldable pub pattern_ok : List ℕ → Attribute → Bool
pattern_ok text r =
    cond (eqb r.code known_bits_code) (pattern_in pattern_byte text r.pattern)
    (cond (eqb r.code demanded_bits_code) (pattern_in bit text r.pattern)
    (no_span r.pattern))

-- range has two numbers of 128 bits, signBits one of 8 bits; the others have none
unfoldable pub greatest : ℕ → ℕ
greatest c = cond (eqb c sign_bits_code) 255 0

unfoldable pub numbers_ok : Attribute → Bool
numbers_ok r = cond (eqb r.code range_code) true (at_most (greatest r.code) r.low && at_most 0 r.high)

-- an attribute's code is from one up to and with another, and it has what its code wants
unfoldable pub attribute_ok : List ℕ → ℕ → ℕ → Attribute → Bool
attribute_ok text lo hi r = inside lo hi r.code && (pattern_ok text r && numbers_ok r)

-- all attributes of a span are so
unfoldable pub attributes_ok : List ℕ → List ℕ → ℕ → ℕ → Span → Bool
attributes_ok text A lo hi s = every (along (λ i. attribute_ok text lo hi (attribute_at A i)) s)

-- Statements: row i, in an item whose statements begin at first

-- an assignment has a name that is new in its item; a condition has none
unfoldable pub name_ok : List ℕ → List ℕ → ℕ → ℕ → Statement → Bool
name_ok text S first i r = cond (is_assignment r.code) (name_in text r.name && new_name text S first i) (no_span r.name)

-- an assignment may have a type; a condition has none
unfoldable pub width_ok : Statement → Bool
width_ok r = cond (is_assignment r.code) (width_fits r.width) (eqb r.width 0)

-- block and blockpc have a number, of 32 bits as every word has; the others have none
unfoldable pub number_ok : Statement → Bool
number_ok r = eqb r.code (keyword_code keyword.block) || (eqb r.code (keyword_code keyword.blockpc) || eqb r.number 0)

-- phi and blockpc refer to a block before them; the others to none
unfoldable pub has_block : ℕ → Bool
has_block c = eqb c (keyword_code keyword.phi) || eqb c (keyword_code keyword.blockpc)

unfoldable pub block_ok : List ℕ → ℕ → ℕ → Statement → Bool
block_ok S first i r = cond (has_block r.code) (refers_to_block S first i r.block) (eqb r.block 0)

-- a statement has as many operands as its instruction takes; a phi as many as its block's number; a condition two; the others none
unfoldable pub arity : List ℕ → Statement → ℕ
arity S r =
    cond (is_instruction r.code) (arity_of (r.code - 1))
    (cond (eqb r.code (keyword_code keyword.phi)) (statement_at S r.block).number
    (cond (is_condition r.code) 2 0))

-- so many, and they refer to assignments before it
unfoldable pub operands_fit : List ℕ → List ℕ → ℕ → ℕ → Statement → Bool
operands_fit S O first i r = eqb (long r.operands) (arity S r) && operands_ok S O first i r.operands

-- an assignment may have attributes, of the codes from knownBits to range; a condition has none
unfoldable pub attributes_fit : List ℕ → List ℕ → Statement → Bool
attributes_fit text A r =
    cond (is_assignment r.code) (attributes_ok text A known_bits_code range_code r.attributes) (eqb (long r.attributes) 0)

-- a statement's code is one of them, and all that is so
unfoldable pub statement_ok : List ℕ → List ℕ → List ℕ → List ℕ → ℕ → ℕ → Statement → Bool
statement_ok text S O A first i r =
    inside (instruction_code 0) (keyword_code keyword.blockpc) r.code
    && (name_ok text S first i r
    && (width_ok r
    && (number_ok r
    && (block_ok S first i r
    && (operands_fit S O first i r
    && attributes_fit text A r)))))

-- Items

-- infer names an assignment before it; an item without infer has none
unfoldable pub infers : ℕ → Bool
infers k = eqb k infer_result || eqb k left_hand_side

unfoldable pub infer_ok : List ℕ → Item → Bool
infer_ok S r = cond (infers r.kind) (refers_to S r.statements.first r.middle r.infer) (eqb r.infer 0)

-- cand has two operands, infer alone none, result one
unfoldable pub closing_arity : ℕ → ℕ
closing_arity k = cond (eqb k candidate) 2 (cond (eqb k left_hand_side) 0 1)

-- so many, and they refer to assignments of the item
unfoldable pub closing_ok : List ℕ → List ℕ → Item → Bool
closing_ok S O r =
    eqb (long r.operands) (closing_arity r.kind)
    && operands_ok S O r.statements.first r.statements.past r.operands

-- infer and cand may have attributes, demandedBits and harvestedFromUse; result alone has none
unfoldable pub roots_ok : List ℕ → List ℕ → Item → Bool
roots_ok text A r =
    cond (eqb r.kind right_hand_side) (eqb (long r.attributes) 0)
    (attributes_ok text A demanded_bits_code harvested_from_use_code r.attributes)

-- all statements of an item are so
unfoldable pub statements_ok : List ℕ → List ℕ → List ℕ → List ℕ → Span → Bool
statements_ok text S O A s = every (along (λ i. statement_ok text S O A s.first i (statement_at S i)) s)

-- an item's closing lines and statements are so
unfoldable pub item_ok : List ℕ → List ℕ → List ℕ → List ℕ → Item → Bool
item_ok text S O A r = infer_ok S r && (closing_ok S O r && (roots_ok text A r && statements_ok text S O A r.statements))

-- The whole

-- counts within the capacities, and unused words 0
unfoldable pub tables_ok : List ℕ → List ℕ → List ℕ → List ℕ → Counts → Bool
tables_ok I S O A c =
    table_ok item_length I c.items
    && (table_ok statement_length S c.statements
    && (table_ok operand_length O c.operands
    && table_ok attribute_length A c.attributes))

-- the kinds of the first n items
unfoldable pub kinds_ok : List ℕ → ℕ → Bool
kinds_ok I n = every (each (λ i. kind_ok (item_at I i)) 0 n)

-- rows consecutive, inside the counts, each owned exactly once
unfoldable pub rows_owned : List ℕ → List ℕ → Counts → Bool
rows_owned I S c =
    statements_owned I c.items c.statements
    && (kinds_ok I c.items
    && (operands_owned I S c.items c.operands
    && attributes_owned I S c.items c.attributes))

-- what the first n items and all that they own say
unfoldable pub items_ok : List ℕ → List ℕ → List ℕ → List ℕ → List ℕ → ℕ → Bool
items_ok text I S O A n = every (each (λ i. item_ok text S O A (item_at I i)) 0 n)

-- a text and four tables, with so many rows counted
unfoldable pub well_formed : List ℕ → List ℕ → List ℕ → List ℕ → List ℕ → Counts → Bool
well_formed text I S O A c = short_text text && (tables_ok I S O A c && (rows_owned I S c && items_ok text I S O A c.items))
