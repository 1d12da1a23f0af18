-- What holds of the parts of the grammar holds of every rule.
-- Good j k p says something of a rule p that has the purse j where it starts and k where it goes on: a taken token is earned, and a claim is paid for.
-- Assumes nothing.
use Prim.Native.Nat.{ℕ, zero, suc, ◌≤◌, ◌<◌}
use mathlib.Core.Path.{◌≡◌, refl, subst, fun_ext}
use mathlib.Core.Bool.{Bool, true, false, cond, not, ◌||◌}
use native.Mathlib.Omega.{arith}
use lib.Dec.{eqb, ltb}
use Rattle.rules.specs.declared.Spot.{Spot}
use Rattle.rules.specs.declared.Span.{Span}
use Rattle.rules.specs.declared.Side.{Side}
use Rattle.std.specs.Prelude.{Option, Some, None}
use Rattle.rules.specs.declared.Item.{Item}
use Rattle.rules.specs.declared.Statement.{Statement}
use Rattle.rules.specs.declared.Operand.{Operand}
use Rattle.rules.specs.declared.Attribute.{Attribute}
use Rattle.rules.specs.declared.Entry.{Entry}
use Rattle.rules.specs.declared.Entry.TheVariants.{Replacements, LeftHandSides, RightHandSides}
use Rattle.rules.specs.Faults as fault
use Rattle.rules.specs.Keywords as keyword
use Rattle.rules.specs.Tokens as kind
use Rattle.rules.specs.Integers.{Read, number, refused, fits}
use Rattle.rules.specs.Rows.{◌up_to◌, keyword_code, infer_result, candidate, left_hand_side, right_hand_side}
use Rattle.rules.specs.World.{Table, Tables, World, go, stop, P, ◌>>=◌, give, refuse, asks, scoped, claim_item, claim_statement, claim_operand, claim_attribute, many}
use Rattle.rules.specs.Reading as R
use Rattle.reading.proofs.Parts.{keyword_seen, instruction_seen, integer_seen, width_seen, bits_seen, last_seen, scope_seen, code_seen, number_seen, statements_seen, operands_seen, attributes_seen, demanded_row, assignment_row, condition_row, item_row}
use Rattle.reading.proofs.Claims.{Keeps, Claims, open_paren_ahead-keeps, statement_ahead-keeps, item_ahead-keeps, attribute_claims, root_attribute_claims, statement_claims, item_of_claims}

-- how many rows each table has room for
pub record Room : Type 0 where
  pub items : ℕ
  pub statements : ℕ
  pub operands : ℕ
  pub attributes : ℕ

-- a world with other capacities
abbrev pub roomed : Room → World → World
roomed c w =
    record {
      text = w.text;
      stand = w.stand;
      scope = w.scope;
      tables =
          record {
            items = record { cap = c.items; count = w.tables.items.count; words = w.tables.items.words };
            statements = record { cap = c.statements; count = w.tables.statements.count; words = w.tables.statements.words };
            operands = record { cap = c.operands; count = w.tables.operands.count; words = w.tables.operands.words };
            attributes = record { cap = c.attributes; count = w.tables.attributes.count; words = w.tables.attributes.words };
          };
    }

-- what is seen of a world whatever its capacities
abbrev pub Blind : {A : Type 0} → (World → A) → Type 0
Blind f = (c : Room) (w : World) → f (roomed c w) ≡ f w

-- What was earned and not paid out yet, in two counts. A taken token is earned in both. Of the first count every row costs one; of the second an operand costs nothing,
-- an item two, a statement or an attribute three.
pub record Purse : Type 0 where
  pub rows : ℕ
  pub tokens : ℕ

-- nothing earned yet
abbrev pub empty : Purse
empty = record { rows = 0; tokens = 0 }

-- a token more
unfoldable pub earned : Purse → Purse
earned j = record { rows = suc j.rows; tokens = suc j.tokens }

-- a token more, paid out of the first count
unfoldable pub kept : Purse → Purse
kept j = record { rows = j.rows; tokens = suc j.tokens }

pub record Closed (Good : Purse → Purse → (A : Type 0) → P A → Type 0) : Type 1 where
  pub given : (j : Purse) {A : Type 0} (a : A) → Good j j A (give a)
  pub asked : (j : Purse) {A : Type 0} (f : World → A) → Blind f → Good j j A (asks f)
  pub scoping : (j : Purse) (n : ℕ) → Good j j (Unit {0}) (λ w. go tt (scoped n w))
  -- the faults of a text are numbered from 1 to 7, and that of the tables 8
  pub halted : (j k : Purse) {A : Type 0} (n : ℕ) (t : Spot) → (1 ≤ n) × (n < 8) → Good j k A (refuse n t)
  pub then : (j k l : Purse) {A B : Type 0} (p : P A) (f : A → P B) → Good j k A p → ((a : A) → Good k l B (f a)) → Good j l B (p >>= f)
  pub choose : (j k : Purse) {A : Type 0} (t : Bool) (p q : P A) → Good j k A p → Good j k A q → Good j k A (cond t p q)
  pub less : (j k : Purse) {A : Type 0} (p : P A) → Good j (earned k) A p → Good j (kept k) A p
  pub lose : (j k : Purse) {A : Type 0} (p : P A) → Good j (kept k) A p → Good j k A p
  pub look : (j : Purse) → Good j j Spot R.lookahead
  pub take : (j : Purse) → Good j (earned j) Spot R.token
  pub item : (j : Purse) (r : Item) → Good (earned (kept j)) j (Unit {0}) (claim_item r)
  pub statement : (j : Purse) (r : Statement) → Good (earned (kept (kept j))) j (Unit {0}) (claim_statement r)
  pub operand : (j : Purse) (r : Operand) → Good (earned j) (kept j) (Unit {0}) (claim_operand r)
  pub attribute : (j : Purse) (r : Attribute) → Good (earned (kept (kept j))) j (Unit {0}) (claim_attribute r)
  pub again : {of : Tables → Table} {peek : P Bool} {rule : P (Unit {0})} → Keeps of peek → Claims of rule → ((j : Purse) → Good j j Bool peek) → ((j : Purse) → Good j j (Unit {0}) rule) → (j : Purse) → Good j j (Unit {0}) (many of peek rule)

-- a block's row is looked at
block-seen : (r : ℕ) (t : Spot) (w : World) → (asks (code_seen r) >>= λ c. cond (eqb c (keyword_code keyword.block)) (give r) (refuse fault.no_block t)) w ≡ R.block_at (Some r) t w
unfolding R.block_at asks
block-seen r t w = by (eqb (code_seen r w) (keyword_code keyword.block))
  where
    by : (b : Bool) → cond b (give r) (refuse fault.no_block t) w ≡ cond b (go r w) (stop fault.no_block t)
    by true = refl
    by false = refl

module _ {Good : Purse → Purse → (A : Type 0) → P A → Type 0} (g : Closed Good) where
  next : {j k l : Purse} {A B : Type 0} {p : P A} {f : A → P B} → Good j k A p → ((a : A) → Good k l B (f a)) → Good j l B (p >>= f)
  next {j} {k} {l} {p = p} {f = f} x y = g.then j k l p f x y

  test : {j k : Purse} {A : Type 0} (t : Bool) {p q : P A} → Good j k A p → Good j k A q → Good j k A (cond t p q)
  test {j} {k} t {p} {q} x y = g.choose j k t p q x y

  keeps : {j : Purse} (k : Purse) {A : Type 0} {p : P A} → Good j (earned k) A p → Good j (kept k) A p
  keeps {j} k {p = p} x = g.less j k p x

  loses : {j : Purse} (k : Purse) {A : Type 0} {p : P A} → Good j (kept k) A p → Good j k A p
  loses {j} k {p = p} x = g.lose j k p x

  fewer : {j : Purse} (k : Purse) {A : Type 0} {p : P A} → Good j (earned k) A p → Good j k A p
  fewer k x = loses k (keeps k x)

  seen : {j : Purse} {A : Type 0} (f : World → A) → Blind f → Good j j A (asks f)
  seen {j} f h = g.asked j f h

  gives : {j : Purse} {A : Type 0} (a : A) → Good j j A (give a)
  gives {j} a = g.given j a

  halts : {j k : Purse} {A : Type 0} (n : ℕ) (t : Spot) → (1 ≤ n) × (n < 8) → Good j k A (refuse n t)
  halts {j} {k} n t h = g.halted j k n t h

  -- Tokens

  pub expect_good : (j : Purse) (k : ℕ) → Good j (earned j) Spot (R.expect k)
  unfolding R.expect
  expect_good j k = next (g.take j) (λ t. test (eqb t.kind k) (gives t) (halts fault.token t (omega arith)))

  pub expect_passes : (j : Purse) (k : ℕ) → Good j j Spot (R.expect k)
  expect_passes j k = fewer j (expect_good j k)

  pub lookahead_ident_good : (j : Purse) → Good j j ℕ R.lookahead_ident
  unfolding R.lookahead_ident
  lookahead_ident_good j = next (g.look j) (λ t. seen (keyword_seen t) (λ c w. refl))

  pub ident_good : (j : Purse) (k : ℕ) → Good j (earned j) Spot (R.ident k)
  unfolding R.ident
  ident_good j k = next (g.take j) (λ t. next (seen (keyword_seen t) (λ c w. refl)) (λ i. test (eqb i k) (gives t) (halts fault.token t (omega arith))))

  pub valued_good : (j : Purse) (r : Read) (f : ℕ) (t : Spot) → (1 ≤ f) × (f < 8) → Good j j ℕ (R.valued r f t)
  unfolding R.valued
  valued_good j (number n) f t h = gives n
  valued_good j refused f t h = halts f t h

  pub int_good : (j : Purse) → Good j (earned j) ℕ R.int
  unfolding R.int
  int_good j = next (expect_good j kind.int) (λ t. next (seen (integer_seen t) (λ c w. refl)) (λ r. valued_good (earned j) r fault.integer t (omega arith)))

  pub int_field_good : (j : Purse) (width : ℕ) → Good j (earned j) ℕ (R.int_field width)
  unfolding R.int_field
  int_field_good j width = next (int_good j) (λ n. next (seen last_seen (λ c w. refl)) (λ t. valued_good (earned j) (fits width (number n)) fault.integer t (omega arith)))

  pub type_good : (j : Purse) → Good j (earned j) ℕ R.type
  unfolding R.type
  type_good j = next (expect_good j kind.ident) (λ t. next (seen (width_seen t) (λ c w. refl)) (λ r. valued_good (earned j) r fault.token t (omega arith)))

  pub type_if_any_good : (j : Purse) → Good j j ℕ R.type_if_any
  unfolding R.type_if_any
  type_if_any_good j = next (g.look j) (λ t. test (eqb t.kind kind.colon) (next (fewer j (g.take j)) (λ u. fewer j (type_good j))) (gives 0))

  -- Names

  in_scope_blind : (t : Spot) → Blind (R.in_scope t)
  unfolding R.in_scope
  in_scope_blind t c w = refl

  pub known_good : (j : Purse) (r : Option ℕ) (t : Spot) → Good j j ℕ (R.known r t)
  unfolding R.known
  known_good j (Some r) t = gives r
  known_good j None t = halts fault.unknown t (omega arith)

  pub fresh_good : (j : Purse) (r : Option ℕ) (t : Spot) → Good j j (Unit {0}) (R.fresh r t)
  unfolding R.fresh
  fresh_good j (Some r) t = halts fault.redefined t (omega arith)
  fresh_good j None t = gives tt

  pub block_at_good : (j : Purse) (r : Option ℕ) (t : Spot) → Good j j ℕ (R.block_at r t)
  unfolding R.block_at
  block_at_good j (Some r) t =
      subst (λ (p : P ℕ). Good j j ℕ p) (fun_ext (block-seen r t))
      (next (seen (code_seen r) (λ c w. refl)) (λ c. test (eqb c (keyword_code keyword.block)) (gives r) (halts fault.no_block t (omega arith))))
  block_at_good j None t = halts fault.no_block t (omega arith)

  pub value_good : (j : Purse) → Good j (earned j) ℕ R.value
  unfolding R.value
  value_good j = next (expect_good j kind.val_name) (λ t. next (seen (R.in_scope t) (in_scope_blind t)) (λ r. known_good (earned j) r t))

  pub new_name_good : (j : Purse) → Good j (earned j) Spot R.new_name
  unfolding R.new_name
  new_name_good j = next (expect_good j kind.val_name) (λ t. next (seen (R.in_scope t) (in_scope_blind t)) (λ r. next (fresh_good (earned j) r t) (λ u. gives t)))

  pub block_good : (j : Purse) → Good j (earned j) ℕ R.block
  unfolding R.block
  block_good j = next (expect_good j kind.val_name) (λ t. next (seen (R.in_scope t) (in_scope_blind t)) (λ r. block_at_good (earned j) r t))

  -- Operands

  pub constant_good : (j : Purse) → Good j (kept j) (Unit {0}) R.constant
  unfolding R.constant
  constant_good j = next (int_good j) (λ n. next (type_if_any_good (earned j)) (λ width. g.operand j _))

  pub named_good : (j : Purse) → Good j (kept j) (Unit {0}) R.named
  unfolding R.named
  named_good j = next (value_good j) (λ r. g.operand j _)

  pub operand_good : (j : Purse) → Good j (kept j) (Unit {0}) R.operand
  unfolding R.operand
  operand_good j = next (g.look j) (λ t. test (eqb t.kind kind.val_name) (named_good j) (constant_good j))

  pub further_operands_good : (j : Purse) (n : ℕ) → Good j j (Unit {0}) (R.further_operands n)
  unfolding R.further_operands
  further_operands_good j zero = gives tt
  further_operands_good j (suc n) = next (expect_passes j kind.comma) (λ t. next (loses j (operand_good j)) (λ u. further_operands_good j n))

  pub operands_good : (j : Purse) (n : ℕ) → Good j j (Unit {0}) (R.operands n)
  unfolding R.operands
  operands_good j zero = gives tt
  operands_good j (suc n) = next (loses j (operand_good j)) (λ u. further_operands_good j n)

  -- Attributes

  pub close_attribute_good : (j : Purse) (r : Attribute) → Good (kept (kept j)) j (Unit {0}) (R.close_attribute r)
  unfolding R.close_attribute
  close_attribute_good j r = next (expect_good (kept (kept j)) kind.close_paren) (λ t. g.attribute j r)

  pub flag_good : (j : Purse) (k : ℕ) → Good (kept (kept j)) j (Unit {0}) (R.flag k)
  unfolding R.flag
  flag_good j k = close_attribute_good j _

  pub sign_bits_good : (j : Purse) → Good (kept (kept j)) j (Unit {0}) R.sign_bits
  unfolding R.sign_bits
  sign_bits_good j = next (expect_passes (kept (kept j)) kind.equals) (λ t. next (fewer (kept (kept j)) (int_field_good (kept (kept j)) 8)) (λ n. close_attribute_good j _))

  pub range_good : (j : Purse) → Good (kept (kept j)) j (Unit {0}) R.range
  unfolding R.range
  range_good j =
      next (expect_passes (kept (kept j)) kind.equals) (λ t₁.
      next (expect_passes (kept (kept j)) kind.open_bracket) (λ t₂.
      next (fewer (kept (kept j)) (int_good (kept (kept j)))) (λ low.
      next (expect_passes (kept (kept j)) kind.comma) (λ t₃.
      next (fewer (kept (kept j)) (int_good (kept (kept j)))) (λ high.
      next (expect_passes (kept (kept j)) kind.close_paren) (λ t₄. close_attribute_good j _))))))

  pub attribute_inner_good : (j : Purse) (t : Spot) (k : ℕ) → Good (kept (kept j)) j (Unit {0}) (R.attribute_inner t k)
  unfolding R.attribute_inner
  attribute_inner_good j t k =
      test (eqb t.kind kind.known_bits) (close_attribute_good j _)
      (test (R.is_flag k) (flag_good j k)
      (test (eqb k keyword.sign_bits) (sign_bits_good j)
      (test (eqb k keyword.range) (range_good j)
      (halts fault.token t (omega arith)))))

  pub attribute_good : (j : Purse) → Good j j (Unit {0}) R.attribute
  unfolding R.attribute
  attribute_good j = next (keeps j (expect_good j kind.open_paren)) (λ u. next (keeps (kept j) (g.take (kept j))) (λ t. next (seen (keyword_seen t) (λ c w. refl)) (λ k. attribute_inner_good j t k)))

  pub demanded_bits_good : (j : Purse) → Good (kept (kept j)) j (Unit {0}) R.demanded_bits
  unfolding R.demanded_bits
  demanded_bits_good j =
      next (expect_passes (kept (kept j)) kind.equals) (λ u.
      next (expect_passes (kept (kept j)) kind.int) (λ t.
      next (seen (bits_seen t) (λ c w. refl)) (λ good.
      test good (close_attribute_good j (demanded_row t)) (halts fault.token t (omega arith)))))

  pub root_attribute_good : (j : Purse) → Good j j (Unit {0}) R.root_attribute
  unfolding R.root_attribute
  root_attribute_good j =
      next (keeps j (expect_good j kind.open_paren)) (λ u.
      next (keeps (kept j) (g.take (kept j))) (λ t.
      next (seen (keyword_seen t) (λ c w. refl)) (λ k.
      test (eqb k keyword.harvested_from_use) (flag_good j k)
      (test (eqb k keyword.demanded_bits) (demanded_bits_good j)
      (halts fault.token t (omega arith))))))

  pub open_paren_ahead_good : (j : Purse) → Good j j Bool R.open_paren_ahead
  unfolding R.open_paren_ahead
  open_paren_ahead_good j = next (g.look j) (λ t. gives (eqb t.kind kind.open_paren))

  pub attributes_good : (j : Purse) → Good j j (Unit {0}) R.attributes
  unfolding R.attributes
  attributes_good j = g.again (open_paren_ahead-keeps _) attribute_claims open_paren_ahead_good attribute_good j

  pub root_attributes_good : (j : Purse) → Good j j (Unit {0}) R.root_attributes
  unfolding R.root_attributes
  root_attributes_good j = g.again (open_paren_ahead-keeps _) root_attribute_claims open_paren_ahead_good root_attribute_good j

  -- Right sides

  pub plain_side_good : (j : Purse) (k : ℕ) → Good j (earned j) Side (R.plain_side k)
  unfolding R.plain_side
  plain_side_good j k = next (g.take j) (λ t. gives (R.side (keyword_code k) 0 0))

  pub block_side_good : (j : Purse) → Good j (earned j) Side R.block_side
  unfolding R.block_side
  block_side_good j = next (g.take j) (λ t. next (fewer (earned j) (int_field_good (earned j) 32)) (λ n. gives _))

  pub phi_side_good : (j : Purse) → Good j (earned j) Side R.phi_side
  unfolding R.phi_side
  phi_side_good j =
      next (g.take j) (λ t.
      next (fewer (earned j) (block_good (earned j))) (λ b.
      next (seen (number_seen b) (λ c w. refl)) (λ n.
      next (further_operands_good (earned j) n) (λ u. gives (R.side (keyword_code keyword.phi) 0 b)))))

  pub instruction_side_good : (j : Purse) (k : ℕ) → Good j (earned j) Side (R.instruction_side k)
  unfolding R.instruction_side
  instruction_side_good j k = next (g.take j) (λ t. next (operands_good (earned j) _) (λ u. gives _))

  pub side_of_good : (j : Purse) (k i : ℕ) → Good j (earned j) Side (R.side_of k i)
  unfolding R.side_of asks
  side_of_good j k i =
      test (eqb k keyword.var) (plain_side_good j k)
      (test (eqb k keyword.block) (block_side_good j)
      (test (eqb k keyword.phi) (phi_side_good j)
      (test (eqb k keyword.reservedinst) (plain_side_good j k)
      (test (eqb k keyword.reservedconst) (plain_side_good j k)
      (test (ltb i 59) (instruction_side_good j i)
      (next (seen last_seen (λ c w. refl)) (λ t. halts fault.token t (omega arith))))))))

  pub assignment_rhs_good : (j : Purse) → Good j (earned j) Side R.assignment_rhs
  unfolding R.assignment_rhs
  assignment_rhs_good j =
      next (g.look j) (λ t.
      next (seen (keyword_seen t) (λ c w. refl)) (λ k.
      next (seen (instruction_seen t) (λ c w. refl)) (λ i. side_of_good j k i)))

  -- Statements

  pub assignment_good : (j : Purse) → Good j j (Unit {0}) R.assignment
  unfolding R.assignment
  assignment_good j =
      next (keeps j (new_name_good j)) (λ t.
      next (type_if_any_good (kept j)) (λ width.
      next (keeps (kept j) (expect_good (kept j) kind.equals)) (λ u.
      next (seen operands_seen (λ c w. refl)) (λ o.
      next (assignment_rhs_good (kept (kept j))) (λ r.
      next (seen operands_seen (λ c w. refl)) (λ p.
      next (seen attributes_seen (λ c w. refl)) (λ a.
      next (attributes_good (earned (kept (kept j)))) (λ v.
      next (seen attributes_seen (λ c w. refl)) (λ e. g.statement j (assignment_row t width r (o up_to p) (a up_to e)))))))))))

  pub condition_good : (j : Purse) (code n b : ℕ) → Good (earned j) j (Unit {0}) (R.condition code n b)
  unfolding R.condition earned kept
  condition_good j code n b =
      next (seen operands_seen (λ c w. refl)) (λ o.
      next (operand_good (earned j)) (λ u.
      next (operand_good (kept (earned j))) (λ v.
      next (seen operands_seen (λ c w. refl)) (λ p.
      next (seen attributes_seen (λ c w. refl)) (λ a. g.statement j (condition_row code n b (o up_to p) a))))))

  pub pc_good : (j : Purse) → Good j j (Unit {0}) R.pc
  unfolding R.pc
  pc_good j = next (g.take j) (λ u. condition_good j _ _ _)

  pub blockpc_good : (j : Purse) → Good j j (Unit {0}) R.blockpc
  unfolding R.blockpc
  blockpc_good j = next (g.take j) (λ u. next (fewer (earned j) (block_good (earned j))) (λ b. next (fewer (earned j) (int_field_good (earned j) 32)) (λ n. condition_good j _ n b)))

  pub statement_ahead_good : (j : Purse) → Good j j Bool R.statement_ahead
  unfolding R.statement_ahead
  statement_ahead_good j =
      next (g.look j) (λ t.
      next (seen (keyword_seen t) (λ c w. refl)) (λ k.
      gives (eqb t.kind kind.val_name || (eqb k keyword.pc || eqb k keyword.blockpc))))

  pub statement_good : (j : Purse) → Good j j (Unit {0}) R.statement
  unfolding R.statement
  statement_good j =
      next (g.look j) (λ t.
      next (seen (keyword_seen t) (λ c w. refl)) (λ k.
      test (eqb t.kind kind.val_name) (assignment_good j) (test (eqb k keyword.pc) (pc_good j) (blockpc_good j))))

  pub statements_good : (j : Purse) → Good j j (Unit {0}) R.statements
  unfolding R.statements
  statements_good j = g.again (statement_ahead-keeps _) statement_claims statement_ahead_good statement_good j

  -- Items

  pub close_item_good : (j : Purse) (k middle infer : ℕ) (o a : Span) → Good (earned (kept j)) j (Unit {0}) (R.close_item k middle infer o a)
  unfolding R.close_item
  close_item_good j k middle infer o a =
      next (seen scope_seen (λ c w. refl)) (λ f.
      next (seen statements_seen (λ c w. refl)) (λ p.
      next (g.item j (item_row k (f up_to p) middle infer o a)) (λ u. g.scoping j p)))

  pub infer_good : (j : Purse) → Good j (earned (kept j)) ℕ R.infer
  unfolding R.infer
  infer_good j = next (keeps j (ident_good j keyword.infer)) (λ t. next (value_good (kept j)) (λ r. next (root_attributes_good (earned (kept j))) (λ u. gives r)))

  pub result_good : (j : Purse) (k middle r : ℕ) (a : Span) → Good j j (Unit {0}) (R.result k middle r a)
  unfolding R.result earned kept
  result_good j k middle r a =
      next (ident_good j keyword.result) (λ t.
      next (seen operands_seen (λ c w. refl)) (λ o.
      next (operand_good (earned j)) (λ u.
      next (seen operands_seen (λ c w. refl)) (λ p. close_item_good j k middle r (o up_to p) a))))

  pub cand_good : (j : Purse) (middle : ℕ) → Good j j (Unit {0}) (R.cand middle)
  unfolding R.cand earned kept
  cand_good j middle =
      next (ident_good j keyword.cand) (λ t.
      next (seen operands_seen (λ c w. refl)) (λ o.
      next (operand_good (earned j)) (λ u.
      next (loses (kept (earned j)) (operand_good (kept (earned j)))) (λ v.
      next (seen operands_seen (λ c w. refl)) (λ p.
      next (seen attributes_seen (λ c w. refl)) (λ a.
      next (root_attributes_good (kept (earned j))) (λ x.
      next (seen attributes_seen (λ c w. refl)) (λ e. close_item_good j candidate middle 0 (o up_to p) (a up_to e)))))))))

  pub infer_and_result_good : (j : Purse) (middle : ℕ) → Good j j (Unit {0}) (R.infer_and_result middle)
  unfolding R.infer_and_result
  infer_and_result_good j middle =
      next (seen attributes_seen (λ c w. refl)) (λ a.
      next (loses j (fewer (kept j) (infer_good j))) (λ r.
      next (seen attributes_seen (λ c w. refl)) (λ e.
      next (statements_good j) (λ u. result_good j infer_result middle r (a up_to e)))))

  pub replacement_good : (j : Purse) → Good j j (Unit {0}) R.replacement
  unfolding R.replacement
  replacement_good j =
      next (statements_good j) (λ u.
      next (seen statements_seen (λ c w. refl)) (λ m.
      next (lookahead_ident_good j) (λ k.
      test (eqb k keyword.infer) (infer_and_result_good j m) (cand_good j m))))

  pub left_side_good : (j : Purse) → Good j j (Unit {0}) R.left_side
  unfolding R.left_side
  left_side_good j =
      next (statements_good j) (λ u.
      next (seen statements_seen (λ c w. refl)) (λ m.
      next (seen attributes_seen (λ c w. refl)) (λ a.
      next (infer_good j) (λ r.
      next (seen attributes_seen (λ c w. refl)) (λ e.
      next (seen operands_seen (λ c w. refl)) (λ o. close_item_good j left_hand_side m r (o up_to o) (a up_to e)))))))

  pub right_side_good : (j : Purse) → Good j j (Unit {0}) R.right_side
  unfolding R.right_side
  right_side_good j =
      next (statements_good j) (λ u.
      next (seen statements_seen (λ c w. refl)) (λ m.
      next (seen attributes_seen (λ c w. refl)) (λ a. result_good j right_hand_side m 0 (a up_to a))))

  pub item_of_good : (e : Entry) (j : Purse) → Good j j (Unit {0}) (R.item_of e)
  unfolding R.item_of
  item_of_good Replacements j = replacement_good j
  item_of_good LeftHandSides j = left_side_good j
  item_of_good RightHandSides j = right_side_good j

  pub item_ahead_good : (j : Purse) → Good j j Bool R.item_ahead
  unfolding R.item_ahead
  item_ahead_good j = next (g.look j) (λ t. gives (not (eqb t.kind 0)))

  pub items_good : (e : Entry) (j : Purse) → Good j j (Unit {0}) (R.items e)
  unfolding R.items
  items_good e j = g.again (item_ahead-keeps _) (item_of_claims e) item_ahead_good (item_of_good e) j
