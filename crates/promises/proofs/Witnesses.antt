-- Small texts, what every read of them answers and leaves, and what every print of that writes: by computation.
-- Assumes nothing.
use Prim.Native.Nat.{ℕ, suc}
use mathlib.Core.Path.{◌≡◌, refl}
use mathlib.Core.List.{List, [], ◌∷◌, ◌++◌}
use lib.ListN.{replicate}
use Rattle.rules.specs.declared.Entry.{Entry}
use Rattle.rules.specs.declared.Entry.TheVariants.{Replacements, LeftHandSides, RightHandSides}
use Rattle.rules.specs.Answer.{Read}
use Rattle.rules.specs.Bytes.{bytes, inside, digit, letter, name_byte, pattern_byte, line_byte, same}
use Rattle.rules.specs.Utf8 as utf8
use Rattle.rules.specs.Space as space
use Rattle.rules.specs.Tokens as tokens
use Rattle.rules.specs.Integers as integers
use Rattle.rules.specs.Instructions as instructions
use Rattle.rules.specs.Rows.{item_words, statement_words, operand_words, attribute_words, item_at, statement_at, operand_at, attribute_at, name_at}
use Rattle.rules.specs.World as world
use Rattle.rules.specs.Reading as reading
use Rattle.rules.specs.View as view
use Rattle.rules.specs.WellFormed.{Counts, counts}
use Rattle.rules.specs.Listing.{listed_before, listed_between}
use Rattle.rules.specs.Printing.{printed, printed_all}
use Rattle.rules.specs.Answers.{start, reading, read_checked, outcome, answer_of, rows_of, padded, fault_number, Reads}
use Rattle.rules.specs.Calls.{Call, said_by}
use Rattle.simulation.proofs.Calls.{report_read}

-- so many words that are 0
abbrev pub zeros : ℕ → List ℕ
zeros n = replicate n 0

-- Texts: none; one item of each entry point, not spaced as a print is; two items, of which the first is one and the same;
-- and one spaced as a print is, with a line that is not reachable.
pub data Small : Entry → Type 0 where
  nothing : (e : Entry) → Small e
  one_cand : Small Replacements
  one_infer : Small LeftHandSides
  one_result : Small RightHandSides
  with_two : Small RightHandSides
  with_three : Small RightHandSides
  unreachable : Small Replacements

-- A text, and what a read of it leaves that is lent two items, a statement, two operands and no attribute: how many rows of each it counts, and all words.
pub record Told : Type 0 where
  pub text : List ℕ
  pub rows : Counts
  pub items : List ℕ
  pub statements : List ℕ
  pub operands : List ℕ

-- the rows of a constant; of %0 = var at the front of a text; of cand with n statements before it; of a result with the operand in row n
abbrev constant_row : ℕ → List ℕ
constant_row n = 2 ∷ 0 ∷ 0 ∷ 0 ∷ 0 ∷ 0 ∷ n ∷ []

abbrev var_row : List ℕ
var_row = 60 ∷ 0 ∷ 2 ∷ 0 ∷ 0 ∷ 0 ∷ 0 ∷ 0 ∷ 0 ∷ 0 ∷ []

abbrev cand_row : ℕ → List ℕ
cand_row n = 2 ∷ 0 ∷ n ∷ n ∷ 0 ∷ 0 ∷ 2 ∷ 0 ∷ 0 ∷ []

abbrev result_row : ℕ → List ℕ
result_row n = 4 ∷ 0 ∷ 0 ∷ 0 ∷ 0 ∷ n ∷ suc n ∷ 0 ∷ 0 ∷ []

abbrev pub told : {e : Entry} → Small e → Told
told (nothing e) = record { text = []; rows = counts 0 0 0 0; items = zeros 18; statements = zeros 10; operands = zeros 14 }
told one_cand = record { text = bytes "cand   1 1"; rows = counts 1 0 2 0; items = cand_row 0 ++ zeros 9; statements = zeros 10; operands = constant_row 1 ++ constant_row 1 }
told one_infer = record { text = bytes "%0=var infer %0"; rows = counts 1 1 0 0; items = 3 ∷ 0 ∷ 1 ∷ 1 ∷ 0 ∷ 0 ∷ 0 ∷ 0 ∷ 0 ∷ zeros 9; statements = var_row; operands = zeros 14 }
told one_result = record { text = bytes "result   1"; rows = counts 1 0 1 0; items = result_row 0 ++ zeros 9; statements = zeros 10; operands = constant_row 1 ++ zeros 7 }
told with_two = record { text = bytes "result 1 result 2"; rows = counts 2 0 2 0; items = result_row 0 ++ result_row 1; statements = zeros 10; operands = constant_row 1 ++ constant_row 2 }
told with_three = record { text = bytes "result 1 result 3"; rows = counts 2 0 2 0; items = result_row 0 ++ result_row 1; statements = zeros 10; operands = constant_row 1 ++ constant_row 3 }
told unreachable = record { text = bytes "%0 = var\ncand 1 1\n"; rows = counts 1 1 2 0; items = cand_row 1 ++ zeros 9; statements = var_row; operands = constant_row 1 ++ constant_row 1 }

-- What a read of a text answers and leaves.
abbrev ReadsAs : Entry → Told → Type 0
ReadsAs e x =
    Reads e x.text (zeros 18) (zeros 10) (zeros 14) []
    (Read x.rows.items x.rows.statements x.rows.operands x.rows.attributes) x.items x.statements x.operands []

pub small_reads : {e : Entry} (x : Small e) → ReadsAs e (told x)
unfolding answer_of rows_of padded reading read_checked outcome start fault_number
    utf8.seq_len utf8.code_point space.white space.space_len space.comment_len space.skip_len
    tokens.single tokens.int_start tokens.pattern tokens.word tokens.start tokens.token_at
    inside digit letter name_byte pattern_byte line_byte same
    integers.integer integers.type_width integers.digits integers.decimal
    instructions.instruction_of instructions.arity_of instructions.instruction_name instructions.keyword_of
    item_words statement_words operand_words attribute_words statement_at name_at
    world.claim_item world.claim_statement world.claim_operand world.claim_attribute world.asks world.repeated world.many
    reading.seen reading.lookahead reading.token reading.expect reading.keyword_at reading.lookahead_ident reading.ident reading.valued reading.int reading.int_field reading.type reading.type_if_any
    reading.find_row reading.in_scope reading.known reading.fresh reading.block_at reading.value reading.new_name reading.block
    reading.constant reading.named reading.operand reading.further_operands reading.operands
    reading.close_attribute reading.flag reading.sign_bits reading.range reading.attribute_inner reading.attribute reading.demanded_bits reading.root_attribute reading.open_paren_ahead reading.attributes reading.root_attributes
    reading.plain_side reading.block_side reading.phi_side reading.instruction_side reading.instruction_at reading.side_of reading.assignment_rhs
    reading.assignment reading.condition reading.pc reading.blockpc reading.statement_ahead reading.statement reading.statements
    reading.close_item reading.infer reading.result reading.cand reading.infer_and_result reading.replacement reading.left_side reading.right_side reading.item_of reading.item_ahead reading.items
small_reads (nothing e) = record { answers = refl; leaves = record { items = refl; statements = refl; operands = refl; attributes = refl } }
small_reads one_cand = record { answers = refl; leaves = record { items = refl; statements = refl; operands = refl; attributes = refl } }
small_reads one_infer = record { answers = refl; leaves = record { items = refl; statements = refl; operands = refl; attributes = refl } }
small_reads one_result = record { answers = refl; leaves = record { items = refl; statements = refl; operands = refl; attributes = refl } }
small_reads with_two = record { answers = refl; leaves = record { items = refl; statements = refl; operands = refl; attributes = refl } }
small_reads with_three = record { answers = refl; leaves = record { items = refl; statements = refl; operands = refl; attributes = refl } }
small_reads unreachable = record { answers = refl; leaves = record { items = refl; statements = refl; operands = refl; attributes = refl } }

-- the call
abbrev pub call_of : {e : Entry} → Small e → Call e
call_of x =
    record {
      text = (told x).text;
      I = zeros 18;
      S = zeros 10;
      O = zeros 14;
      A = [];
      items = (told x).rows.items;
      statements = (told x).rows.statements;
      operands = (told x).rows.operands;
      attributes = (told x).rows.attributes;
      I' = (told x).items;
      S' = (told x).statements;
      O' = (told x).operands;
      A' = [];
      answer = Read (told x).rows.items (told x).rows.statements (told x).rows.operands (told x).rows.attributes;
      tells = report_read (told x).rows.items (told x).rows.statements (told x).rows.operands (told x).rows.attributes;
      reads = small_reads x;
    }

-- What a print of that writes.
abbrev pub shown : {e : Entry} → Small e → List ℕ
shown (nothing e) = []
shown one_cand = bytes "cand 1 1\n"
shown one_infer = bytes "%0 = var\ninfer %0\n"
shown one_result = bytes "result 1\n"
shown with_two = bytes "result 1\nresult 2\n"
shown with_three = bytes "result 1\nresult 3\n"
shown unreachable = bytes "cand 1 1\n"

pub small_prints : {e : Entry} (x : Small e) → printed_all (said_by (call_of x)) ≡ shown x
unfolding same integers.digits integers.decimal instructions.instruction_name item_at statement_at operand_at attribute_at name_at
    view.as_operand view.operand_of view.as_attribute view.attribute_of view.as_root_attribute view.root_attribute_of view.as_side view.side_of view.as_statement view.statement_of view.as_closing view.as_item view.item_of view.items_of
    listed_before listed_between printed
small_prints (nothing e) = refl
small_prints one_cand = refl
small_prints one_infer = refl
small_prints one_result = refl
small_prints with_two = refl
small_prints with_three = refl
small_prints unreachable = refl

-- a text of one item, at each entry point
abbrev pub one : (e : Entry) → Small e
one Replacements = one_cand
one LeftHandSides = one_infer
one RightHandSides = one_result
