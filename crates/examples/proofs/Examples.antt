-- The settled examples of docs/RULES.md, section 9: one table, and one statement about it, by computation.
-- Assumes nothing.
use mathlib.Core.Path.{◌≡◌, refl}
use mathlib.Core.List.{List, [], ◌∷◌, ◌++◌}
use Prim.Native.Nat.{ℕ, ◌*◌}
use Prim.Native.String.{String}
use Rattle.rules.specs.declared.Entry.{Entry}
use Rattle.rules.specs.declared.Entry.TheVariants.{Replacements, LeftHandSides, RightHandSides}
use Rattle.rules.specs.Answer.{Answer}
use Rattle.rules.specs.Answer.{Read, Printed, Refused}
use Rattle.rules.specs.Bytes.{bytes, inside, digit, letter, name_byte, pattern_byte, line_byte, same}
use Rattle.rules.specs.Utf8 as utf8
use Rattle.rules.specs.Space as space
use Rattle.rules.specs.Tokens as tokens
use Rattle.rules.specs.Integers as integers
use Rattle.rules.specs.Instructions as instructions
use Rattle.rules.specs.Rows.{item_words, statement_words, operand_words, attribute_words, item_at, statement_at, operand_at, attribute_at, name_at}
use Rattle.rules.specs.World as world
use Rattle.rules.specs.Reading as reading
use Rattle.rules.specs.Answers.{Lent, Outcome, start, reading, read_checked, outcome, answer_of, rows_of, padded, fault_number}
use Rattle.rules.specs.View as view
use Rattle.rules.specs.Listing as listing
use Rattle.rules.specs.Printing as printing
use Rattle.rules.specs.Prints.{print_of}
use Rattle.rules.specs.WellFormed.{Counts, counts}

-- so many rows of each table
abbrev rows : ℕ → ℕ → ℕ → ℕ → Lent
rows i s o a = record { items = 9 * i; statements = 10 * s; operands = 7 * o; attributes = 11 * a }

-- an example, with what is answered, and what is then printed: nothing after a refusal
pub record Example : Type 0 where
  pub entry : Entry
  pub text : String
  pub lent : Lent
  pub answer : Answer
  pub print : List String

abbrev R : Entry
R = Replacements

abbrev L : Entry
L = LeftHandSides

abbrev T : Entry
T = RightHandSides

-- with as many rows as anyone wants
abbrev many : Lent
many = rows 100 100 100 100

abbrev refused : Entry → String → ℕ → ℕ → Example
refused e t n p = record { entry = e; text = t; lent = many; answer = Refused n p; print = [] }

abbrev accepted : Entry → String → Answer → List String → Example
accepted e t a l = record { entry = e; text = t; lent = many; answer = a; print = l }

-- with too few rows
abbrev short : Entry → String → Lent → ℕ → Example
short e t l p = record { entry = e; text = t; lent = l; answer = Refused 7 p; print = [] }

-- the whole print
abbrev whole : String
whole = "%1=var %0 = var pc %0 1 %2:i08=add %1, -0 cand %2 007"

-- the print in order: attributes of both sorts, a phi with its block, statements on both sides of infer, and operands whose order decides which line stands first
abbrev ordered : String
ordered = "%b=block 2 %x:i08=var (nonZero)(knownBits=0x1) %y=var %p:i8=phi %b,%y,%x (range=[-1,4)) %s:i8=sub %p,%y (signBits=03) infer %s (demandedBits=01) %u=var %r=shl %x,%u (hasExternalUses) result %r"

-- A statement is claimed after a further look; a value at once; a constant after the look for ':'; an attribute at its last ')'; an item
-- after a further look behind infer, at once behind result.
abbrev pub examples : List Example
examples =
    accepted R "" (Read 0 0 0 0) [] ∷
    refused R "%0 = add %0, 1" 6 9 ∷
    refused R "%0 =" 4 3 ∷
    refused R "%0" 4 1 ∷
    refused R "cand - 1" 5 5 ∷
    refused L "%a:i0 = var infer %a" 4 3 ∷
    refused L "%a:i65536 = var infer %a" 4 3 ∷
    accepted L "%a:i65535 = var infer %a" (Read 1 1 0 0) ("%a:i65535 = var" ∷ "infer %a" ∷ []) ∷
    refused R "%a = var (knownBits =0)" 3 19 ∷
    refused R "%0=var %0=var" 6 7 ∷
    refused R "pc 1 2" 4 5 ∷
    refused T "result 1 result %x" 6 16 ∷
    refused R "%b = block 2 %p = phi %b, 1" 4 26 ∷
    accepted R whole (Read 1 4 6 0) ("%1 = var" ∷ "%2:i8 = add %1, 0" ∷ "cand %2 7" ∷ []) ∷
    accepted R ordered (Read 1 7 7 6)
    ("%b = block 2" ∷
    "%y = var" ∷
    "%x:i8 = var (nonZero) (knownBits=0x1)" ∷
    "%p:i8 = phi %b, %y, %x (range=[-1,4))" ∷
    "%s:i8 = sub %p, %y (signBits=3)" ∷
    "infer %s (demandedBits=01)" ∷
    "%u = var" ∷
    "%r = shl %x, %u (hasExternalUses)" ∷
    "result %r" ∷ []) ∷
    short R whole (rows 100 3 100 100) 42 ∷
    short R whole (rows 100 100 0 100) 19 ∷
    short R whole (rows 100 100 1 100) 24 ∷
    short R ordered (rows 100 100 100 2) 86 ∷
    short L "%a=var infer %a %b=var infer %b" (rows 0 100 100 100) 16 ∷
    short T "result 1:i8 result 2" (rows 0 100 100 100) 9 ∷ []

-- an answer, and the bytes of a print
pub record Told : Type 0 where
  pub answer : Answer
  pub print : List ℕ

-- the rows that an answer counts
abbrev counted : Answer → Counts
counted (Read i s o a) = counts i s o a
counted (Printed n) = counts 0 0 0 0
counted (Refused n p) = counts 0 0 0 0

-- what an outcome answers, and what the tables that it leaves print as
abbrev told : List ℕ → Lent → Outcome → Told
told text l o =
    record {
      answer = answer_of o;
      print =
          print_of text
          (padded l.items (rows_of (λ t. t.items) o))
          (padded l.statements (rows_of (λ t. t.statements) o))
          (padded l.operands (rows_of (λ t. t.operands) o))
          (padded l.attributes (rows_of (λ t. t.attributes) o))
          (counted (answer_of o));
    }

-- lines, with a line feed after each
abbrev lines : List String → List ℕ
lines [] = []
lines (l ∷ ls) = bytes l ++ (10 ∷ lines ls)

-- what the definitions say of each example, and what is settled
abbrev pub given : List Example → List Told
given [] = []
given (x ∷ l) = told (bytes x.text) x.lent (reading x.entry (bytes x.text) x.lent) ∷ given l

abbrev pub said : List Example → List Told
said [] = []
said (x ∷ l) = record { answer = x.answer; print = lines x.print } ∷ said l

pub settled_examples : given examples ≡ said examples
unfolding answer_of rows_of padded reading read_checked outcome start fault_number
    utf8.seq_len utf8.code_point space.white space.space_len space.comment_len space.skip_len
    tokens.single tokens.int_start tokens.pattern tokens.word tokens.start tokens.token_at
    inside digit letter name_byte pattern_byte line_byte same
    integers.integer integers.type_width integers.digits integers.decimal
    instructions.instruction_of instructions.arity_of instructions.instruction_name instructions.keyword_of
    item_words statement_words operand_words attribute_words item_at statement_at operand_at attribute_at name_at
    view.as_operand view.operand_of view.as_attribute view.attribute_of view.as_root_attribute view.root_attribute_of view.as_side view.as_statement view.statement_of view.as_closing view.as_item view.item_of view.items_of
    listing.listed_before listing.listed_between printing.printed print_of
    world.claim_item world.claim_statement world.claim_operand world.claim_attribute world.asks world.repeated world.many
    reading.seen reading.lookahead reading.token reading.expect reading.keyword_at reading.lookahead_ident reading.ident reading.valued reading.int reading.int_field reading.type reading.type_if_any
    reading.find_row reading.in_scope reading.known reading.fresh reading.block_at reading.value reading.new_name reading.block
    reading.constant reading.named reading.operand reading.further_operands reading.operands
    reading.close_attribute reading.flag reading.sign_bits reading.range reading.attribute_inner reading.attribute reading.demanded_bits reading.root_attribute reading.open_paren_ahead reading.attributes reading.root_attributes
    reading.plain_side reading.block_side reading.phi_side reading.instruction_side reading.instruction_at reading.side_of reading.assignment_rhs
    reading.assignment reading.condition reading.pc reading.blockpc reading.statement_ahead reading.statement reading.statements
    reading.close_item reading.infer reading.result reading.cand reading.infer_and_result reading.replacement reading.left_side reading.right_side reading.item_of reading.item_ahead reading.items
settled_examples = refl
