-- The tables that reading leaves are well formed, and no longer so with one thing changed: computed from the definitions, a line for each change.
-- And the whole print of docs/RULES.md, section 9, from the tables by what their rows say.
-- Assumes nothing.
use mathlib.Core.Path.{◌≡◌, refl}
use mathlib.Core.Bool.{Bool, true, false}
use mathlib.Core.List.{List, [], ◌∷◌, ◌++◌}
use Prim.Native.Nat.{ℕ, ◌+◌, ◌*◌}
use Prim.Native.String.{String}
use lib.ListN.{set}
use Rattle.rules.specs.declared.Entry.{Entry}
use Rattle.rules.specs.declared.Entry.TheVariants.{Replacements, LeftHandSides, RightHandSides}
use Rattle.rules.specs.Bytes.{bytes, inside, digit, letter, name_byte, pattern_byte, line_byte, same}
use Rattle.rules.specs.Utf8 as utf8
use Rattle.rules.specs.Space as space
use Rattle.rules.specs.Tokens as tokens
use Rattle.rules.specs.Integers as integers
use Rattle.rules.specs.Instructions as instructions
use Rattle.rules.specs.Rows.{item_words, statement_words, operand_words, attribute_words, item_at, statement_at, operand_at, attribute_at, name_at}
use Rattle.rules.specs.World as world
use Rattle.rules.specs.Reading as reading
use Rattle.rules.specs.Answers.{Lent, Outcome, accepted, refusal, start, reading, read_checked, outcome, rows_of, padded}
use Rattle.rules.specs.Listing as listing
use Rattle.rules.specs.Printing as printing
use Rattle.rules.specs.View as view
use Rattle.rules.specs.WellFormed.{Counts, counts, well_formed}
use Rattle.rules.specs.WellFormed as well

-- ten rows of each table
abbrev lent : Lent
lent = record { items = 9 * 10; statements = 10 * 10; operands = 7 * 10; attributes = 11 * 10 }

-- what a read leaves: four tables with zeros behind their rows, and counts
pub record Left : Type 0 where
  pub items : List ℕ
  pub statements : List ℕ
  pub operands : List ℕ
  pub attributes : List ℕ
  pub counts : Counts

abbrev pub counted : Outcome → Counts
counted (accepted t) = counts t.items.count t.statements.count t.operands.count t.attributes.count
counted (refusal n p) = counts 0 0 0 0

abbrev pub left_by : Outcome → Left
left_by r =
    record {
      items = padded lent.items (rows_of (λ t. t.items) r);
      statements = padded lent.statements (rows_of (λ t. t.statements) r);
      operands = padded lent.operands (rows_of (λ t. t.operands) r);
      attributes = padded lent.attributes (rows_of (λ t. t.attributes) r);
      counts = counted r;
    }

abbrev pub Change : Type 0
Change = Left → Left

-- word j of row i of a table is another
abbrev pub item : ℕ → ℕ → ℕ → Change
item i j w t = record { items = set t.items (i * 9 + j) w; statements = t.statements; operands = t.operands; attributes = t.attributes; counts = t.counts }

abbrev pub statement : ℕ → ℕ → ℕ → Change
statement i j w t = record { items = t.items; statements = set t.statements (i * 10 + j) w; operands = t.operands; attributes = t.attributes; counts = t.counts }

abbrev pub operand : ℕ → ℕ → ℕ → Change
operand i j w t = record { items = t.items; statements = t.statements; operands = set t.operands (i * 7 + j) w; attributes = t.attributes; counts = t.counts }

abbrev pub attribute : ℕ → ℕ → ℕ → Change
attribute i j w t = record { items = t.items; statements = t.statements; operands = t.operands; attributes = set t.attributes (i * 11 + j) w; counts = t.counts }

-- counts are others
abbrev pub rows : ℕ → ℕ → ℕ → ℕ → Change
rows i s o a t = record { items = t.items; statements = t.statements; operands = t.operands; attributes = t.attributes; counts = counts i s o a }

-- one change after another
abbrev pub ◌then◌ : Change → Change → Change
(f then g) t = g (f t)

infixl 60 ◌then◌
pub record Example : Type 0 where
  pub entry : Entry
  pub text : String
  pub changes : List Change

abbrev pub examples : List Example
examples =
    record {
      entry = Replacements;
      text = "%1=var %0 = var pc %0 1 %2:i08=add %1, -0 cand %2 007";
      changes =
          -- a word behind the counted rows, in a row and behind the last; a row not counted
          item 1 4 1 ∷
          attribute 9 10 1 ∷
          rows 1 4 5 0 ∷
          -- pc has a name
          (statement 2 1 1 then statement 2 2 2) ∷ [];
    } ∷
    record {
      entry = Replacements;
      text = "%b=block 2 %p:i8=phi %b, 1, %b (knownBits=0x) (range=[-1,4)) blockpc %b 7 %p 2 infer %p (demandedBits=01) (harvestedFromUse) %q=add %p, 3:i8 (signBits=3) (nonZero) result %q";
      changes =
          -- another middle, infer names a statement behind it, a result with two operands, a kind that is none
          item 0 3 2 ∷
          item 0 4 3 ∷
          item 0 5 5 ∷
          item 0 0 5 ∷
          -- the name of %q is that of %p, begins behind its '%', ends behind the text
          (statement 3 1 11 then statement 3 2 13) ∷
          statement 3 1 126 ∷
          statement 3 2 65536 ∷
          -- a phi of a block of three, a phi of itself, a blockpc of a phi; a number, a width, a code, an arity out of range
          statement 0 4 3 ∷
          statement 1 5 1 ∷
          statement 2 5 1 ∷
          statement 3 4 1 ∷
          statement 3 3 65536 ∷
          statement 0 0 67 ∷
          statement 3 0 31 ∷
          -- an operand refers to its own statement, to a condition, to none; a value with a width, a constant with a row
          operand 1 1 1 ∷
          operand 4 1 2 ∷
          operand 4 1 4 ∷
          operand 4 2 8 ∷
          operand 5 1 1 ∷
          -- a root's attribute on a statement, an empty pattern, a pattern of other letters, nine bits of signBits, a nonZero with a number
          attribute 0 0 10 ∷
          attribute 0 1 44 ∷
          (attribute 2 1 42 then attribute 2 2 44) ∷
          attribute 4 6 256 ∷
          attribute 5 6 1 ∷ [];
    } ∷
    record {
      entry = LeftHandSides;
      text = "%a = var infer %a %b:i1 = hole infer %b";
      changes =
          -- statements given to the other item, and an infer in the other item
          (item 0 2 0 then item 1 1 0) ∷
          item 1 4 0 ∷ [];
    } ∷
    record {
      entry = RightHandSides;
      text = "result 1 %a = var (negative) result %a";
      changes =
          -- an infer where there is none, a value that refers to nothing, an operand of no sort, an attribute behind result
          item 0 4 1 ∷
          operand 0 0 1 ∷
          operand 1 0 3 ∷
          (statement 0 9 0 then item 1 7 0) ∷ [];
    } ∷ []

abbrev pub tells : List ℕ → Left → Bool
tells text t = well_formed text t.items t.statements t.operands t.attributes t.counts

-- the verdict on what a read leaves, and on that with each change
abbrev pub on_each : List ℕ → Left → List Change → List Bool
on_each text t [] = []
on_each text t (f ∷ l) = tells text (f t) ∷ on_each text t l

abbrev pub verdicts : List Example → List (List Bool)
verdicts [] = []
verdicts (x ∷ l) =
    (tells (bytes x.text) (left_by (reading x.entry (bytes x.text) lent)) ∷ on_each (bytes x.text) (left_by (reading x.entry (bytes x.text) lent)) x.changes)
    ∷ verdicts l

-- well formed as it is, and not with any change
abbrev pub ill : List Change → List Bool
ill [] = []
ill (f ∷ l) = false ∷ ill l

abbrev pub wanted : List Example → List (List Bool)
wanted [] = []
wanted (x ∷ l) = (true ∷ ill x.changes) ∷ wanted l

pub well_formed_examples : verdicts examples ≡ wanted examples
unfolding rows_of padded reading read_checked outcome start
    utf8.seq_len utf8.code_point space.white space.space_len space.comment_len space.skip_len
    tokens.single tokens.int_start tokens.pattern tokens.word tokens.start tokens.token_at
    inside digit letter name_byte pattern_byte line_byte same
    integers.integer integers.type_width integers.digits integers.decimal
    instructions.instruction_of instructions.arity_of instructions.instruction_name instructions.keyword_of
    item_words statement_words operand_words attribute_words statement_at name_at item_at operand_at attribute_at
    world.claim_item world.claim_statement world.claim_operand world.claim_attribute world.asks world.repeated world.many
    reading.seen reading.lookahead reading.token reading.expect reading.keyword_at reading.lookahead_ident reading.ident reading.valued reading.int reading.int_field reading.type reading.type_if_any
    reading.find_row reading.in_scope reading.known reading.fresh reading.block_at reading.value reading.new_name reading.block
    reading.constant reading.named reading.operand reading.further_operands reading.operands
    reading.close_attribute reading.flag reading.sign_bits reading.range reading.attribute_inner reading.attribute reading.demanded_bits reading.root_attribute reading.open_paren_ahead reading.attributes reading.root_attributes
    reading.plain_side reading.block_side reading.phi_side reading.instruction_side reading.instruction_at reading.side_of reading.assignment_rhs
    reading.assignment reading.condition reading.pc reading.blockpc reading.statement_ahead reading.statement reading.statements
    reading.close_item reading.infer reading.result reading.cand reading.infer_and_result reading.replacement reading.left_side reading.right_side reading.item_of reading.item_ahead reading.items
    well.short_text well.count_fits well.word_fits well.is_zero well.rest_unused well.table_ok well.operand_spans well.attribute_spans well.statements_owned well.operands_owned well.attributes_owned well.middle_ok well.kind_ok
    well.is_name well.is_pattern well.name_in well.pattern_in well.no_span well.new_name well.is_instruction well.is_assignment well.is_condition well.among well.refers_to well.refers_to_block
    well.at_most well.width_fits well.value_ok well.constant_ok well.operand_ok well.operands_ok well.pattern_ok well.greatest well.numbers_ok well.attribute_ok well.attributes_ok
    well.name_ok well.width_ok well.number_ok well.has_block well.block_ok well.arity well.operands_fit well.attributes_fit well.statement_ok
    well.infers well.infer_ok well.closing_arity well.closing_ok well.roots_ok well.statements_ok well.item_ok well.tables_ok well.kinds_ok well.rows_owned well.items_ok well.well_formed
well_formed_examples = refl

abbrev pub whole : String
whole = "%1=var %0 = var pc %0 1 %2:i08=add %1, -0 cand %2 007"

-- what the tables say that a text is read to, printed
abbrev pub print_of : List ℕ → Left → List ℕ
print_of text t = printing.printed_all (view.items_of text t.items t.statements t.operands t.attributes t.counts.items)

pub whole_print : print_of (bytes whole) (left_by (reading Replacements (bytes whole) lent)) ≡ bytes "%1 = var" ++ (10 ∷ bytes "%2:i8 = add %1, 0" ++ (10 ∷ bytes "cand %2 7" ++ (10 ∷ [])))
unfolding rows_of padded reading read_checked outcome start
    utf8.seq_len utf8.code_point space.white space.space_len space.comment_len space.skip_len
    tokens.single tokens.int_start tokens.pattern tokens.word tokens.start tokens.token_at
    inside digit letter name_byte pattern_byte line_byte same
    integers.integer integers.type_width integers.digits integers.decimal
    instructions.instruction_of instructions.arity_of instructions.instruction_name instructions.keyword_of
    item_words statement_words operand_words attribute_words statement_at name_at item_at operand_at attribute_at
    world.claim_item world.claim_statement world.claim_operand world.claim_attribute world.asks world.repeated world.many
    reading.seen reading.lookahead reading.token reading.expect reading.keyword_at reading.lookahead_ident reading.ident reading.valued reading.int reading.int_field reading.type reading.type_if_any
    reading.find_row reading.in_scope reading.known reading.fresh reading.block_at reading.value reading.new_name reading.block
    reading.constant reading.named reading.operand reading.further_operands reading.operands
    reading.close_attribute reading.flag reading.sign_bits reading.range reading.attribute_inner reading.attribute reading.demanded_bits reading.root_attribute reading.open_paren_ahead reading.attributes reading.root_attributes
    reading.plain_side reading.block_side reading.phi_side reading.instruction_side reading.instruction_at reading.side_of reading.assignment_rhs
    reading.assignment reading.condition reading.pc reading.blockpc reading.statement_ahead reading.statement reading.statements
    reading.close_item reading.infer reading.result reading.cand reading.infer_and_result reading.replacement reading.left_side reading.right_side reading.item_of reading.item_ahead reading.items
    view.as_operand view.operand_of view.as_attribute view.attribute_of view.as_root_attribute view.root_attribute_of view.as_side view.side_of view.as_statement view.statement_of view.as_closing view.as_item view.item_of view.items_of
    listing.listed_before listing.listed_between printing.printed
whole_print = refl
