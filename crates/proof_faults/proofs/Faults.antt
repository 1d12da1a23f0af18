-- Each fault of a text stands at a token of its kind: of an integer at an integer, of a name at a value name; where there is no token, that of the lexer and that of the
-- end of the text; a wrong token and a row that is missing at any.
-- Assumes nothing.
use Prim.Native.Nat.{ℕ, zero, suc}
use mathlib.Core.Path.{◌≡◌, refl, sym, ap, ◌∙◌, subst}
use mathlib.Core.Bool.{Bool, cond}
use borrow.Author.Tests.{eqb-true}
use lib.Dec.{eqb, ltb}
use Rattle.rules.specs.declared.Spot.{Spot}
use Rattle.rules.specs.declared.Span.{Span}
use Rattle.std.specs.Prelude.{Option, Some, None}
use Rattle.rules.specs.declared.Item.{Item}
use Rattle.rules.specs.declared.Statement.{Statement}
use Rattle.rules.specs.declared.Operand.{Operand}
use Rattle.rules.specs.declared.Attribute.{Attribute}
use Rattle.rules.specs.declared.Entry.{Entry}
use Rattle.rules.specs.declared.Entry.TheVariants.{Replacements, LeftHandSides, RightHandSides}
use Rattle.rules.specs.declared.Lexed.{Lexed}
use Rattle.rules.specs.declared.Lexed.TheVariants.{Found, End, Refused}
use Rattle.rules.specs.Faults as fault
use Rattle.rules.specs.Keywords as keyword
use Rattle.rules.specs.Tokens as kind
use Rattle.rules.specs.Tokens.{token_at}
use Rattle.rules.specs.Integers.{Read, number, refused, fits}
use Rattle.rules.specs.Rows.{keyword_code, statement_at}
use Rattle.rules.specs.World.{World, P, ◌>>=◌, give, refuse, asks, scoped, claim_item, claim_statement, claim_operand, claim_attribute}
use Rattle.rules.specs.Reading as R
use Rattle.laws.proofs.Cases.{by_cases}
use Rattle.reading.proofs.Ends.{Ends, goes, stops, seq, arms, either, weaker, claim_item-ends, claim_statement-ends, claim_operand-ends, claim_attribute-ends}
use Rattle.reading.proofs.Many.{Stops, many_stops}
use Rattle.reading.proofs.Claims.{open_paren_ahead-keeps, statement_ahead-keeps, item_ahead-keeps, attribute_claims, root_attribute_claims, statement_claims, item_of_claims}

-- a fault, and the kind of the token at fault: 0 where there is none
pub data FaultAt : ℕ → ℕ → Type 0 where
  no_token : FaultAt fault.lexer 0
  wrong_token : (k : ℕ) → FaultAt fault.token k
  text_ended : FaultAt fault.end 0
  bad_integer : FaultAt fault.integer kind.int
  unknown-name : FaultAt fault.unknown kind.val_name
  redefined-name : FaultAt fault.redefined kind.val_name
  no_block_lem : FaultAt fault.no_block kind.val_name
  no_row : (k : ℕ) → FaultAt fault.no_row k

abbrev pub AtFault : ℕ → Spot → Type 0
AtFault n t = FaultAt n t.kind

-- a rule that stops only so
abbrev Ok : {A : Type 0} → P A → Type 0
Ok p = Stops AtFault p

next : {A B : Type 0} {p : P A} {f : A → P B} → Ok p → ((a : A) → Ok (f a)) → Ok (p >>= f)
next {f = f} x y = record { by = λ w. seq f (x.by w) (λ a v h. (y a).by v) }

test : {A : Type 0} (t : Bool) {p q : P A} → Ok p → Ok q → Ok (cond t p q)
test t {p} {q} x y = record { by = λ w. either t p q w (x.by w) (y.by w) }

gives : {A : Type 0} (a : A) → Ok (give a)
gives a = record { by = λ w. goes a w tt }

seen : {A : Type 0} (f : World → A) → Ok (asks f)
unfolding asks
seen f = record { by = λ w. goes (f w) w tt }

wrong : {A : Type 0} (t : Spot) → Ok (refuse {A = A} fault.token t)
wrong t = record { by = λ w. stops fault.token t (wrong_token t.kind) }

-- ---- claims
claim_item_lem : (r : Item) → Ok (claim_item r)
claim_item_lem r = record { by = λ w. claim_item-ends r w (λ h. tt) (λ h. no_row _) }

claim-statement : (r : Statement) → Ok (claim_statement r)
claim-statement r = record { by = λ w. claim_statement-ends r w (λ h. tt) (λ h. no_row _) }

claim-operand : (r : Operand) → Ok (claim_operand r)
claim-operand r = record { by = λ w. claim_operand-ends r w (λ h. tt) (λ h. no_row _) }

claim-attribute : (r : Attribute) → Ok (claim_attribute r)
claim-attribute r = record { by = λ w. claim_attribute-ends r w (λ h. tt) (λ h. no_row _) }

-- ---- tokens
seen-ok : (l : Lexed) → Ok (R.seen l)
unfolding R.seen
seen-ok (Found t) = record { by = λ w. goes _ _ tt }
seen-ok End = record { by = λ w. goes _ w tt }
seen-ok (Refused p) = record { by = λ w. stops fault.lexer (record { kind = 0; first = p; past = p }) no_token }

look : Ok R.lookahead
unfolding R.lookahead
look = record { by = λ w. arms (eqb w.stand.ahead.kind 0) ((seen-ok (token_at w.text w.stand.at)).by w) (goes _ w tt) }

-- a token that is taken is the last token found
abbrev Taken : Spot → World → Type 0
Taken t v = v.stand.last ≡ t

token-taken : (w : World) → Ends Taken AtFault (R.token w)
unfolding R.token
token-taken w = seq _ (look.by w) (λ t v h. either (eqb t.kind 0) _ _ v (stops fault.end (R.last_byte v.text) text_ended) (goes t _ refl))

-- one of a kind
abbrev TakenOf : ℕ → Spot → World → Type 0
TakenOf k t v = (t.kind ≡ k) × Taken t v

expect-taken : (k : ℕ) (w : World) → Ends (TakenOf k) AtFault (R.expect k w)
unfolding R.expect
expect-taken k w =
    seq _ (token-taken w) (λ t v h.
    by_cases (eqb t.kind k)
    (λ e. rw e (goes t v (eqb-true t.kind k e, h)))
    (λ e. rw e (stops fault.token t (wrong_token t.kind))))

take : Ok R.token
take = record { by = λ w. weaker (λ t v h. tt) (token-taken w) }

expect : (k : ℕ) → Ok (R.expect k)
expect k = record { by = λ w. weaker (λ t v h. tt) (expect-taken k w) }

-- a rule that is handed a token of a kind, the last that was found
after : {A : Type 0} {Q : A → World → Type 0} {k : ℕ} {f : Spot → P A} → ((t : Spot) (v : World) → TakenOf k t v → Ends Q AtFault (f t v)) → (w : World) → Ends Q AtFault ((R.expect k >>= f) w)
after {k = k} {f = f} g w = seq f (expect-taken k w) g

ident : (k : ℕ) → Ok (R.ident k)
unfolding R.ident
ident k = next take (λ t. next (seen _) (λ j. test (eqb j k) (gives t) (wrong t)))

lookahead_ident : Ok R.lookahead_ident
unfolding R.lookahead_ident
lookahead_ident = next look (λ t. seen _)

-- ---- integers
-- an integer is the last token found
abbrev AtInt : ℕ → World → Type 0
AtInt n v = v.stand.last.kind ≡ kind.int

valued-int : (r : Read) (t : Spot) (v : World) → TakenOf kind.int t v → Ends AtInt AtFault (R.valued r fault.integer t v)
unfolding R.valued
valued-int (number n) t v h = goes n v (ap (λ (z : Spot). z.kind) h.1 ∙ h.0)
valued-int refused t v h = stops fault.integer t (subst (FaultAt fault.integer) (sym h.0) bad_integer)

int-taken : (w : World) → Ends AtInt AtFault (R.int w)
unfolding R.int asks
int-taken = after (λ t v h. valued-int _ t v h)

int : Ok R.int
int = record { by = λ w. weaker (λ n v h. tt) (int-taken w) }

int_field : (width : ℕ) → Ok (R.int_field width)
unfolding R.int_field asks
int_field width = record { by = λ w. seq _ (int-taken w) (λ n v h. weaker (λ m u k. tt) (valued-int (fits width (number n)) v.stand.last v (h, refl))) }

valued_wrong : (r : Read) (t : Spot) → Ok (R.valued r fault.token t)
unfolding R.valued
valued_wrong (number n) t = gives n
valued_wrong refused t = wrong t

type : Ok R.type
unfolding R.type
type = next (expect kind.ident) (λ t. next (seen _) (λ r. valued_wrong r t))

type_if_any : Ok R.type_if_any
unfolding R.type_if_any
type_if_any = next look (λ t. test (eqb t.kind kind.colon) (next take (λ u. type)) (gives 0))

-- ---- names
-- a fault at a value name
at_name : {n : ℕ} (t : Spot) → FaultAt n kind.val_name → t.kind ≡ kind.val_name → AtFault n t
at_name {n} t f e = subst (FaultAt n) (sym e) f

known-ok : (r : Option ℕ) (t : Spot) (v : World) → t.kind ≡ kind.val_name → Ends (λ a u. Unit {0}) AtFault (R.known r t v)
unfolding R.known
known-ok (Some r) t v e = goes r v tt
known-ok None t v e = stops fault.unknown t (at_name t unknown-name e)

fresh_ok : (r : Option ℕ) (t : Spot) (v : World) → t.kind ≡ kind.val_name → Ends (λ a u. Unit {0}) AtFault (R.fresh r t v)
unfolding R.fresh
fresh_ok (Some r) t v e = stops fault.redefined t (at_name t redefined-name e)
fresh_ok None t v e = goes tt v tt

block-ok : (r : Option ℕ) (t : Spot) (v : World) → t.kind ≡ kind.val_name → Ends (λ a u. Unit {0}) AtFault (R.block_at r t v)
unfolding R.block_at
block-ok (Some r) t v e = arms (eqb (statement_at v.tables.statements.words r).code (keyword_code keyword.block)) (goes r v tt) (stops fault.no_block t (at_name t no_block_lem e))
block-ok None t v e = stops fault.no_block t (at_name t no_block_lem e)

value : Ok R.value
unfolding R.value asks
value = record { by = after (λ t v h. known-ok (R.in_scope t v) t v h.0) }

new_name : Ok R.new_name
unfolding R.new_name asks
new_name = record { by = after (λ t v h. seq _ (fresh_ok (R.in_scope t v) t v h.0) (λ u z k. goes t z tt)) }

block : Ok R.block
unfolding R.block asks
block = record { by = after (λ t v h. block-ok (R.in_scope t v) t v h.0) }

-- ---- operands
constant : Ok R.constant
unfolding R.constant
constant = next int (λ n. next type_if_any (λ width. claim-operand _))

named : Ok R.named
unfolding R.named
named = next value (λ r. claim-operand _)

operand : Ok R.operand
unfolding R.operand
operand = next look (λ t. test (eqb t.kind kind.val_name) named constant)

further_operands : (n : ℕ) → Ok (R.further_operands n)
unfolding R.further_operands
further_operands zero = gives tt
further_operands (suc n) = next (expect kind.comma) (λ t. next operand (λ u. further_operands n))

operands : (n : ℕ) → Ok (R.operands n)
unfolding R.operands
operands zero = gives tt
operands (suc n) = next operand (λ u. further_operands n)

-- ---- attributes
close_attribute : (r : Attribute) → Ok (R.close_attribute r)
unfolding R.close_attribute
close_attribute r = next (expect kind.close_paren) (λ t. claim-attribute r)

flag : (k : ℕ) → Ok (R.flag k)
unfolding R.flag
flag k = close_attribute _

sign_bits : Ok R.sign_bits
unfolding R.sign_bits
sign_bits = next (expect kind.equals) (λ t. next (int_field 8) (λ n. close_attribute _))

range : Ok R.range
unfolding R.range
range =
    next (expect kind.equals) (λ t.
    next (expect kind.open_bracket) (λ u.
    next int (λ low.
    next (expect kind.comma) (λ v.
    next int (λ high.
    next (expect kind.close_paren) (λ x. close_attribute _))))))

attribute_inner : (t : Spot) (k : ℕ) → Ok (R.attribute_inner t k)
unfolding R.attribute_inner
attribute_inner t k =
    test (eqb t.kind kind.known_bits) (close_attribute _)
    (test (R.is_flag k) (flag k)
    (test (eqb k keyword.sign_bits) sign_bits
    (test (eqb k keyword.range) range
    (wrong t))))

attribute : Ok R.attribute
unfolding R.attribute
attribute = next (expect kind.open_paren) (λ u. next take (λ t. next (seen _) (λ k. attribute_inner t k)))

demanded_bits : Ok R.demanded_bits
unfolding R.demanded_bits
demanded_bits =
    next (expect kind.equals) (λ u.
    next (expect kind.int) (λ t.
    next (seen _) (λ good. test good (close_attribute _) (wrong t))))

root_attribute : Ok R.root_attribute
unfolding R.root_attribute
root_attribute =
    next (expect kind.open_paren) (λ u.
    next take (λ t.
    next (seen _) (λ k.
    test (eqb k keyword.harvested_from_use) (flag k) (test (eqb k keyword.demanded_bits) demanded_bits (wrong t)))))

open_paren_ahead : Ok R.open_paren_ahead
unfolding R.open_paren_ahead
open_paren_ahead = next look (λ t. gives _)

attributes : Ok R.attributes
unfolding R.attributes
attributes = many_stops (open_paren_ahead-keeps _) attribute_claims open_paren_ahead attribute

root_attributes : Ok R.root_attributes
unfolding R.root_attributes
root_attributes = many_stops (open_paren_ahead-keeps _) root_attribute_claims open_paren_ahead root_attribute

-- ---- right sides
plain_side : (k : ℕ) → Ok (R.plain_side k)
unfolding R.plain_side
plain_side k = next take (λ t. gives _)

block_side : Ok R.block_side
unfolding R.block_side
block_side = next take (λ t. next (int_field 32) (λ n. gives _))

phi_side : Ok R.phi_side
unfolding R.phi_side
phi_side = next take (λ t. next block (λ b. next (seen _) (λ n. next (further_operands n) (λ u. gives _))))

instruction_side : (k : ℕ) → Ok (R.instruction_side k)
unfolding R.instruction_side
instruction_side k = next take (λ t. next (operands _) (λ u. gives _))

side_of : (k i : ℕ) → Ok (R.side_of k i)
unfolding R.side_of
side_of k i =
    test (eqb k keyword.var) (plain_side k)
    (test (eqb k keyword.block) block_side
    (test (eqb k keyword.phi) phi_side
    (test (eqb k keyword.reservedinst) (plain_side k)
    (test (eqb k keyword.reservedconst) (plain_side k)
    (test (ltb i 59) (instruction_side i)
    (record { by = λ w. stops fault.token w.stand.last (wrong_token _) }))))))

assignment_rhs : Ok R.assignment_rhs
unfolding R.assignment_rhs
assignment_rhs = next look (λ t. next (seen _) (λ k. next (seen _) (λ i. side_of k i)))

-- ---- statements
assignment : Ok R.assignment
unfolding R.assignment
assignment =
    next new_name (λ t.
    next type_if_any (λ width.
    next (expect kind.equals) (λ u.
    next (seen _) (λ o.
    next assignment_rhs (λ r.
    next (seen _) (λ p.
    next (seen _) (λ a.
    next attributes (λ v.
    next (seen _) (λ e. claim-statement _)))))))))

condition : (code n b : ℕ) → Ok (R.condition code n b)
unfolding R.condition
condition code n b = next (seen _) (λ o. next operand (λ u. next operand (λ v. next (seen _) (λ p. next (seen _) (λ a. claim-statement _)))))

pc : Ok R.pc
unfolding R.pc
pc = next take (λ t. condition _ _ _)

blockpc : Ok R.blockpc
unfolding R.blockpc
blockpc = next take (λ t. next block (λ b. next (int_field 32) (λ n. condition _ n b)))

statement_ahead : Ok R.statement_ahead
unfolding R.statement_ahead
statement_ahead = next look (λ t. next (seen _) (λ k. gives _))

statement : Ok R.statement
unfolding R.statement
statement = next look (λ t. next (seen _) (λ k. test (eqb t.kind kind.val_name) assignment (test (eqb k keyword.pc) pc blockpc)))

statements : Ok R.statements
unfolding R.statements
statements = many_stops (statement_ahead-keeps _) statement_claims statement_ahead statement

-- ---- items
close_item : (k middle infer : ℕ) (o a : Span) → Ok (R.close_item k middle infer o a)
unfolding R.close_item
close_item k middle infer o a = next (seen _) (λ f. next (seen _) (λ p. next (claim_item_lem _) (λ u. record { by = λ w. goes tt (scoped p w) tt })))

infer : Ok R.infer
unfolding R.infer
infer = next (ident keyword.infer) (λ t. next value (λ r. next root_attributes (λ u. gives r)))

result : (k middle r : ℕ) (a : Span) → Ok (R.result k middle r a)
unfolding R.result
result k middle r a = next (ident keyword.result) (λ t. next (seen _) (λ o. next operand (λ u. next (seen _) (λ p. close_item _ _ _ _ _))))

cand : (middle : ℕ) → Ok (R.cand middle)
unfolding R.cand
cand middle =
    next (ident keyword.cand) (λ t.
    next (seen _) (λ o.
    next operand (λ u.
    next operand (λ v.
    next (seen _) (λ p.
    next (seen _) (λ a.
    next root_attributes (λ x.
    next (seen _) (λ e. close_item _ _ _ _ _))))))))

infer_and_result : (middle : ℕ) → Ok (R.infer_and_result middle)
unfolding R.infer_and_result
infer_and_result middle = next (seen _) (λ a. next infer (λ r. next (seen _) (λ e. next statements (λ u. result _ _ _ _))))

replacement : Ok R.replacement
unfolding R.replacement
replacement = next statements (λ u. next (seen _) (λ m. next lookahead_ident (λ k. test (eqb k keyword.infer) (infer_and_result m) (cand m))))

left_side : Ok R.left_side
unfolding R.left_side
left_side = next statements (λ u. next (seen _) (λ m. next (seen _) (λ a. next infer (λ r. next (seen _) (λ e. next (seen _) (λ o. close_item _ _ _ _ _))))))

right_side : Ok R.right_side
unfolding R.right_side
right_side = next statements (λ u. next (seen _) (λ m. next (seen _) (λ a. result _ _ _ _)))

item_of : (e : Entry) → Ok (R.item_of e)
unfolding R.item_of
item_of Replacements = replacement
item_of LeftHandSides = left_side
item_of RightHandSides = right_side

item_ahead : Ok R.item_ahead
unfolding R.item_ahead
item_ahead = next look (λ t. gives _)

-- From whatever world, a list of items stops only so.
pub items-stop : (e : Entry) → Stops AtFault (R.items e)
unfolding R.items
items-stop e = many_stops (item_ahead-keeps _) (item_of_claims e) item_ahead (item_of e)
