-- Sections 2, 3 and 5 of docs/RULES.md. Reading: the grammar, rule by rule, in the order of the crate's parser; which names are in scope; when rows are claimed.
-- Assumes nothing.
use Rattle.std.specs.Prelude.{ℕ, zero, suc, ◌+◌, ◌-◌, min, Option, Some, None, Bool, true, cond, not, ◌&&◌, ◌||◌, List, [], ◌∷◌, eqb, leb, ltb, length}
use Rattle.rules.specs.declared.Token.{Token}
use Rattle.rules.specs.declared.Lexed.{Lexed}
use Rattle.rules.specs.declared.Lexed.TheVariants.{Found, End, Refused}
use Rattle.rules.specs.declared.Spot.{Spot}
use Rattle.rules.specs.declared.Span.{Span}
use Rattle.rules.specs.declared.Attribute.{Attribute}
use Rattle.rules.specs.declared.Side.{Side}
use Rattle.rules.specs.declared.Entry.{Entry}
use Rattle.rules.specs.declared.Entry.TheVariants.{Replacements, LeftHandSides, RightHandSides}
use Rattle.rules.specs.Bytes.{bit, part, same}
use Rattle.rules.specs.Tokens.{token_at}
use Rattle.rules.specs.Tokens as kind
use Rattle.rules.specs.Integers.{Read, number, refused, integer, fits, type_width}
use Rattle.rules.specs.Instructions.{instruction_of, arity_of, keyword_of}
use Rattle.rules.specs.Keywords as keyword
use Rattle.rules.specs.Faults as fault
use Rattle.rules.specs.Rows.{◌up_to◌, words_of, name_at, statement_at, instruction_code, keyword_code, value_code, constant_code, known_bits_code, sign_bits_code, range_code, demanded_bits_code, infer_result, candidate, left_hand_side, right_hand_side}
use Rattle.rules.specs.World.{World, go, stop, P, ◌>>=◌, ◌>>◌, give, refuse, asks, standing, scoped, claim_item, claim_statement, claim_operand, claim_attribute, statement_count, operand_count, attribute_count, many}

-- Tokens

-- no token
abbrev pub nothing : Spot
nothing = record { kind = 0; first = 0; past = 0 }

abbrev pub spot_of : Token → Spot
spot_of t = record { kind = t.kind; first = t.first; past = t.past }

-- a token that is found by looking is ahead, and is the last token found
unfoldable pub seen : Lexed → P Spot
seen (Found t) w = go (spot_of t) (standing (record { at = t.past; ahead = spot_of t; last = spot_of t }) w)
seen End w = go w.stand.ahead w
seen (Refused p) w = stop fault.lexer (record { kind = 0; first = p; past = p })

-- the next token, looked at and not taken: of kind 0 at the end of the text, where nothing moves
unfoldable pub lookahead : P Spot
lookahead w = cond (eqb w.stand.ahead.kind 0) (seen (token_at w.text w.stand.at) w) (go w.stand.ahead w)

-- a token is taken once it is ahead no more
abbrev pub taken : Spot → P Spot
taken t w = go t (standing (record { at = w.stand.at; ahead = nothing; last = t }) w)

-- the text's last byte, 0 for the empty text
abbrev pub last_byte : List ℕ → Spot
last_byte text = record { kind = 0; first = length text - 1; past = length text - 1 }

-- the next token, taken; where none is left the fault is at the text's last byte
unfoldable pub token : P Spot
token = do
  t ← lookahead
  cond (eqb t.kind 0) (λ w. stop fault.end (last_byte w.text)) (taken t)

-- a token of a kind
unfoldable pub expect : ℕ → P Spot
expect k = do
  t ← token
  cond (eqb t.kind k) (give t) (refuse fault.token t)

-- the letters of a token
abbrev pub letters : List ℕ → Spot → List ℕ
letters text t = part text t.first t.past

-- the keyword that a token is: only an identifier can be one
unfoldable pub keyword_at : List ℕ → Spot → ℕ
keyword_at text t = cond (eqb t.kind kind.ident) (keyword_of (letters text t)) keyword.other

-- the keyword that comes next, looked at and not taken
unfoldable pub lookahead_ident : P ℕ
lookahead_ident = do
  t ← lookahead
  asks (λ w. keyword_at w.text t)

-- a keyword
unfoldable pub ident : ℕ → P Spot
ident k = do
  t ← token
  j ← asks (λ w. keyword_at w.text t)
  cond (eqb j k) (give t) (refuse fault.token t)

-- a number, or a fault at its token
unfoldable pub valued : Read → ℕ → Spot → P ℕ
valued (number n) f t = give n
valued refused f t = refuse f t

-- an integer, as 128 bits
unfoldable pub int : P ℕ
int = do
  t ← expect kind.int
  r ← asks (λ w. integer (letters w.text t))
  valued r fault.integer t

-- an integer that fits a field of so many bits, unsigned
unfoldable pub int_field : ℕ → P ℕ
int_field width = do
  n ← int
  t ← asks (λ w. w.stand.last)
  valued (fits width (number n)) fault.integer t

-- a type
unfoldable pub type : P ℕ
type = do
  t ← expect kind.ident
  r ← asks (λ w. type_width (letters w.text t))
  valued r fault.token t

-- ':' and a type, or nothing, which is 0
unfoldable pub type_if_any : P ℕ
type_if_any = do
  t ← lookahead
  cond (eqb t.kind kind.colon) (do
    token
    type) (give 0)

-- Names

-- the last of the k statement rows from one on that has a name
unfoldable pub find_row : List ℕ → List ℕ → List ℕ → ℕ → ℕ → Option ℕ
find_row text words name first zero = None
find_row text words name first (suc k) =
    cond (same (name_at text words (first + k)) name) (Some (first + k)) (find_row text words name first k)

-- the item's statement that has the name which a token is
unfoldable pub in_scope : Spot → World → Option ℕ
in_scope t w =
    find_row w.text w.tables.statements.words (letters w.text t) w.scope (w.tables.statements.count - w.scope)

unfoldable pub known : Option ℕ → Spot → P ℕ
known (Some r) t = give r
known None t = refuse fault.unknown t

unfoldable pub fresh : Option ℕ → Spot → P (Unit {0})
fresh (Some r) t = refuse fault.redefined t
fresh None t = give tt

unfoldable pub block_at : Option ℕ → Spot → P ℕ
block_at (Some r) t w =
    cond (eqb (statement_at w.tables.statements.words r).code (keyword_code keyword.block)) (go r w) (stop fault.no_block t)
block_at None t w = stop fault.no_block t

-- a name in scope, by its statement's row
unfoldable pub value : P ℕ
value = do
  t ← expect kind.val_name
  r ← asks (in_scope t)
  known r t

-- a name that is not in scope yet
unfoldable pub new_name : P Spot
new_name = do
  t ← expect kind.val_name
  r ← asks (in_scope t)
  fresh r t
  give t

-- the name of a block in scope, by its statement's row
unfoldable pub block : P ℕ
block = do
  t ← expect kind.val_name
  r ← asks (in_scope t)
  block_at r t

-- Operands

unfoldable pub constant : P (Unit {0})
constant = do
  n ← int
  width ← type_if_any
  claim_operand (record { code = constant_code; row = 0; width = width; bits = words_of n })

unfoldable pub named : P (Unit {0})
named = do
  r ← value
  claim_operand (record { code = value_code; row = r; width = 0; bits = words_of 0 })

unfoldable pub operand : P (Unit {0})
operand = do
  t ← lookahead
  cond (eqb t.kind kind.val_name) named constant

-- n operands, each behind a comma
unfoldable pub further_operands : ℕ → P (Unit {0})
further_operands zero = give tt
further_operands (suc n) = do
  expect kind.comma
  operand
  further_operands n

-- n operands with commas between them
unfoldable pub operands : ℕ → P (Unit {0})
operands zero = give tt
operands (suc n) = do
  operand
  further_operands n

-- Attributes

-- an attribute's row: by its code, its pattern's place, its first number and its second
abbrev pub attribute_row : ℕ → Span → ℕ → ℕ → Attribute
attribute_row code pattern low high = record { code = code; pattern = pattern; low = words_of low; high = words_of high }

-- a keyword's code as an attribute
abbrev pub attribute_code : ℕ → ℕ
attribute_code k = k - 8

-- the letters behind the ten of `knownBits=`
abbrev pub pattern_of : Spot → Span
pattern_of t = min (t.first + 10) t.past up_to t.past

-- ')' and the row
unfoldable pub close_attribute : Attribute → P (Unit {0})
close_attribute r = do
  expect kind.close_paren
  claim_attribute r

-- an attribute that is a keyword alone
unfoldable pub flag : ℕ → P (Unit {0})
flag k = close_attribute (attribute_row (attribute_code k) (0 up_to 0) 0 0)

unfoldable pub sign_bits : P (Unit {0})
sign_bits = do
  expect kind.equals
  n ← int_field 8
  close_attribute (attribute_row sign_bits_code (0 up_to 0) n 0)

unfoldable pub range : P (Unit {0})
range = do
  expect kind.equals
  expect kind.open_bracket
  low ← int
  expect kind.comma
  high ← int
  expect kind.close_paren
  close_attribute (attribute_row range_code (0 up_to 0) low high)

-- powerOfTwo, negative, nonNegative, nonZero and hasExternalUses
abbrev pub is_flag : ℕ → Bool
is_flag k = leb keyword.power_of_two k && leb k keyword.has_external_uses

-- what stands behind '('
unfoldable pub attribute_inner : Spot → ℕ → P (Unit {0})
attribute_inner t k =
    cond (eqb t.kind kind.known_bits) (close_attribute (attribute_row known_bits_code (pattern_of t) 0 0))
    (cond (is_flag k) (flag k)
    (cond (eqb k keyword.sign_bits) sign_bits
    (cond (eqb k keyword.range) range
    (refuse fault.token t))))

unfoldable pub attribute : P (Unit {0})
attribute = do
  expect kind.open_paren
  t ← token
  k ← asks (λ w. keyword_at w.text t)
  attribute_inner t k

-- a pattern of demandedBits: an integer token whose letters are all 0 or 1
abbrev pub all_bits : List ℕ → Bool
all_bits [] = true
all_bits (b ∷ l) = bit b && all_bits l

unfoldable pub demanded_bits : P (Unit {0})
demanded_bits = do
  expect kind.equals
  t ← expect kind.int
  good ← asks (λ w. all_bits (letters w.text t))
  cond good (close_attribute (attribute_row demanded_bits_code (t.first up_to t.past) 0 0)) (refuse fault.token t)

unfoldable pub root_attribute : P (Unit {0})
root_attribute = do
  expect kind.open_paren
  t ← token
  k ← asks (λ w. keyword_at w.text t)
  cond (eqb k keyword.harvested_from_use) (flag k)
      (cond (eqb k keyword.demanded_bits) demanded_bits
      (refuse fault.token t))

-- whether '(' comes next
unfoldable pub open_paren_ahead : P Bool
open_paren_ahead = do
  t ← lookahead
  give (eqb t.kind kind.open_paren)

unfoldable pub attributes : P (Unit {0})
attributes = many (λ t. t.attributes) open_paren_ahead attribute

unfoldable pub root_attributes : P (Unit {0})
root_attributes = many (λ t. t.attributes) open_paren_ahead root_attribute

-- Right sides

abbrev pub side : ℕ → ℕ → ℕ → Side
side code n row = record { code = code; number = n; block = row }

-- var, reservedinst, reservedconst
unfoldable pub plain_side : ℕ → P Side
plain_side k = do
  token
  give (side (keyword_code k) 0 0)

unfoldable pub block_side : P Side
block_side = do
  token
  n ← int_field 32
  give (side (keyword_code keyword.block) n 0)

unfoldable pub phi_side : P Side
phi_side = do
  token
  b ← block
  n ← asks (λ w. (statement_at w.tables.statements.words b).number)
  further_operands n
  give (side (keyword_code keyword.phi) 0 b)

unfoldable pub instruction_side : ℕ → P Side
instruction_side k = do
  token
  operands (arity_of k)
  give (side (instruction_code k) 0 0)

-- the instruction that a token names: only an identifier can name one
unfoldable pub instruction_at : List ℕ → Spot → ℕ
instruction_at text t = cond (eqb t.kind kind.ident) (instruction_of (letters text t)) 59

-- the right side that begins with a keyword or an instruction; what is neither is refused at the last token found
unfoldable pub side_of : ℕ → ℕ → P Side
side_of k i =
    cond (eqb k keyword.var) (plain_side k)
    (cond (eqb k keyword.block) block_side
    (cond (eqb k keyword.phi) phi_side
    (cond (eqb k keyword.reservedinst) (plain_side k)
    (cond (eqb k keyword.reservedconst) (plain_side k)
    (cond (ltb i 59) (instruction_side i)
    (λ w. stop fault.token w.stand.last))))))

unfoldable pub assignment_rhs : P Side
assignment_rhs = do
  t ← lookahead
  k ← asks (λ w. keyword_at w.text t)
  i ← asks (λ w. instruction_at w.text t)
  side_of k i

-- Statements

-- a name enters scope with its statement's row, so after its attributes
unfoldable pub assignment : P (Unit {0})
assignment = do
  t ← new_name
  width ← type_if_any
  expect kind.equals
  o ← operand_count
  r ← assignment_rhs
  p ← operand_count
  a ← attribute_count
  attributes
  e ← attribute_count
  claim_statement
      (record {
        code = r.code;
        name = t.first up_to t.past;
        width = width;
        number = r.number;
        block = r.block;
        operands = o up_to p;
        attributes = a up_to e;
      })

-- two operands, and a condition's row: no name, no attribute
unfoldable pub condition : ℕ → ℕ → ℕ → P (Unit {0})
condition code n b = do
  o ← operand_count
  operand
  operand
  p ← operand_count
  a ← attribute_count
  claim_statement
      (record {
        code = code;
        name = 0 up_to 0;
        width = 0;
        number = n;
        block = b;
        operands = o up_to p;
        attributes = a up_to a;
      })

unfoldable pub pc : P (Unit {0})
pc = do
  token
  condition (keyword_code keyword.pc) 0 0

unfoldable pub blockpc : P (Unit {0})
blockpc = do
  token
  b ← block
  n ← int_field 32
  condition (keyword_code keyword.blockpc) n b

-- whether a statement comes next
unfoldable pub statement_ahead : P Bool
statement_ahead = do
  t ← lookahead
  k ← asks (λ w. keyword_at w.text t)
  give (eqb t.kind kind.val_name || (eqb k keyword.pc || eqb k keyword.blockpc))

unfoldable pub statement : P (Unit {0})
statement = do
  t ← lookahead
  k ← asks (λ w. keyword_at w.text t)
  cond (eqb t.kind kind.val_name) assignment (cond (eqb k keyword.pc) pc blockpc)

unfoldable pub statements : P (Unit {0})
statements = many (λ t. t.statements) statement_ahead statement

-- Items

-- an item's row is claimed last of all; scope ends with the item
unfoldable pub close_item : ℕ → ℕ → ℕ → Span → Span → P (Unit {0})
close_item k middle infer o a = do
  f ← asks (λ w. w.scope)
  p ← statement_count
  claim_item
      (record {
        kind = k;
        statements = f up_to p;
        middle = middle;
        infer = infer;
        operands = o;
        attributes = a;
      })
  (λ w. go tt (scoped p w))

-- 'infer', a value and root attributes: the value's row
unfoldable pub infer : P ℕ
infer = do
  ident keyword.infer
  r ← value
  root_attributes
  give r

-- statements and 'result', an operand; the infer line before them, if any, had a value and attributes
unfoldable pub result : ℕ → ℕ → ℕ → Span → P (Unit {0})
result k middle r a = do
  ident keyword.result
  o ← operand_count
  operand
  p ← operand_count
  close_item k middle r (o up_to p) a

unfoldable pub cand : ℕ → P (Unit {0})
cand middle = do
  ident keyword.cand
  o ← operand_count
  operand
  operand
  p ← operand_count
  a ← attribute_count
  root_attributes
  e ← attribute_count
  close_item candidate middle 0 (o up_to p) (a up_to e)

unfoldable pub infer_and_result : ℕ → P (Unit {0})
infer_and_result middle = do
  a ← attribute_count
  r ← infer
  e ← attribute_count
  statements
  result infer_result middle r (a up_to e)

unfoldable pub replacement : P (Unit {0})
replacement = do
  statements
  m ← statement_count
  k ← lookahead_ident
  cond (eqb k keyword.infer) (infer_and_result m) (cand m)

unfoldable pub left_side : P (Unit {0})
left_side = do
  statements
  m ← statement_count
  a ← attribute_count
  r ← infer
  e ← attribute_count
  o ← operand_count
  close_item left_hand_side m r (o up_to o) (a up_to e)

unfoldable pub right_side : P (Unit {0})
right_side = do
  statements
  m ← statement_count
  a ← attribute_count
  result right_hand_side m 0 (a up_to a)

unfoldable pub item_of : Entry → P (Unit {0})
item_of Replacements = replacement
item_of LeftHandSides = left_side
item_of RightHandSides = right_side

-- whether anything comes next
unfoldable pub item_ahead : P Bool
item_ahead = do
  t ← lookahead
  give (not (eqb t.kind 0))

-- items up to the end of the text
unfoldable pub items : Entry → P (Unit {0})
items e = many (λ t. t.items) item_ahead (item_of e)
