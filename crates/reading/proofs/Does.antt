-- What a rule does to the world, whatever is counted of it: C k says what holds between the world where a rule starts and the one where it goes on, if it claims k rows
-- of the kind that counts. Of the rules that claim none it says what they leave as it is.
-- Assumes nothing.
use Prim.Native.Nat.{ℕ, zero, suc}
use mathlib.Core.Bool.{Bool, cond, ◌||◌}
use lib.Dec.{eqb, ltb}
use Rattle.rules.specs.declared.Spot.{Spot}
use Rattle.rules.specs.declared.Span.{Span}
use Rattle.rules.specs.declared.Lexed.{Lexed}
use Rattle.rules.specs.declared.Lexed.TheVariants.{Found, End, Refused}
use Rattle.std.specs.Prelude.{Option, Some, None}
use Rattle.rules.specs.declared.Item.{Item}
use Rattle.rules.specs.declared.Statement.{Statement}
use Rattle.rules.specs.declared.Operand.{Operand}
use Rattle.rules.specs.declared.Attribute.{Attribute}
use Rattle.rules.specs.declared.Entry.{Entry}
use Rattle.rules.specs.declared.Entry.TheVariants.{Replacements, LeftHandSides, RightHandSides}
use Rattle.rules.specs.Faults as fault
use Rattle.rules.specs.Tokens.{token_at}
use Rattle.rules.specs.Tokens as kind
use Rattle.rules.specs.Integers.{Read, number, refused, fits}
use Rattle.rules.specs.Keywords as keyword
use Rattle.rules.specs.Rows.{◌up_to◌, statement_at, keyword_code, infer_result, candidate, left_hand_side, right_hand_side}
use Rattle.rules.specs.World.{Stand, Table, Tables, World, go, stop, P, ◌>>=◌, ◌>>◌, give, refuse, asks, standing, scoped, claim_item, claim_statement, claim_operand, claim_attribute, repeated, many}
use Rattle.rules.specs.Reading as R
use Rattle.reading.proofs.Parts.{keyword_seen, instruction_seen, bits_seen, scope_seen, number_seen, statements_seen, operands_seen, attributes_seen, demanded_row, assignment_row, condition_row, item_row}
use Rattle.reading.proofs.Ends.{Ends, goes, stops, seq, arms, either, weaker}

-- where the reader stands does not count, and rules that claim nothing may come before
pub record Frame (C : ℕ → World → World → Type 0) : Type 0 where
  pub stays : (w : World) (s : Stand) → C 0 w (standing s w)
  pub after : {k : ℕ} {w v u : World} → C 0 w v → C k v u → C k w u

-- a rule that claims k rows wherever it goes on
pub record Does (C : ℕ → World → World → Type 0) (k : ℕ) {A : Type 0} (p : P A) : Type 0 where
  pub by : (w : World) → Ends (λ a v. C k w v) (λ n t. Unit {0}) (p w)

abbrev pub Keeps : (ℕ → World → World → Type 0) → {A : Type 0} → P A → Type 0
Keeps C p = Does C 0 p

-- what a claim costs; an item's sets the scope
pub record Costs (C : ℕ → World → World → Type 0) (i s o a : ℕ) : Type 0 where
  pub frame : Frame C
  pub item : (r : Item) (n : ℕ) → Does C i (claim_item r >> λ w. go (tt {0}) (scoped n w))
  pub statement : (r : Statement) → Does C s (claim_statement r)
  pub operand : (r : Operand) → Does C o (claim_operand r)
  pub attribute : (r : Attribute) → Does C a (claim_attribute r)

module _ {C : ℕ → World → World → Type 0} (f : Frame C) where
  pub given : {A : Type 0} (a : A) → Does C 0 (give a)
  given a = record { by = λ w. goes a w (f.stays w _) }

  asked : {A : Type 0} (g : World → A) → Does C 0 (asks g)
  unfolding asks
  asked g = record { by = λ w. goes (g w) w (f.stays w _) }

  halted : {k : ℕ} {A : Type 0} (n : ℕ) (t : Spot) → Does C k (refuse {A = A} n t)
  halted n t = record { by = λ w. stops n t tt }

  halted_at : {k : ℕ} {A : Type 0} (n : ℕ) (t : World → Spot) → Does C k {A = A} (λ w. stop n (t w))
  halted_at n t = record { by = λ w. stops n (t w) tt }

  pub after : {k : ℕ} {A B : Type 0} {p : P A} {q : A → P B} → Does C 0 p → ((a : A) → Does C k (q a)) → Does C k (p >>= q)
  after {q = q} x y = record { by = λ w. seq q (x.by w) (λ a v h. weaker (λ b u g. f.after h g) ((y a).by v)) }

  choose : {k : ℕ} {A : Type 0} (t : Bool) {p q : P A} → Does C k p → Does C k q → Does C k (cond t p q)
  choose t {p} {q} x y = record { by = λ w. either t p q w (x.by w) (y.by w) }

  -- Tokens and names claim nothing

  seen-keeps : (l : Lexed) → Keeps C (R.seen l)
  unfolding R.seen
  seen-keeps (Found t) = record { by = λ w. goes _ _ (f.stays w _) }
  seen-keeps End = record { by = λ w. goes _ w (f.stays w _) }
  seen-keeps (Refused p) = record { by = λ w. stops _ _ tt }

  pub lookahead-keeps : Keeps C R.lookahead
  unfolding R.lookahead
  lookahead-keeps = record { by = λ w. arms (eqb w.stand.ahead.kind 0) ((seen-keeps (token_at w.text w.stand.at)).by w) (goes _ w (f.stays w _)) }

  pub token-keeps : Keeps C R.token
  unfolding R.token
  token-keeps = after lookahead-keeps (λ t. choose (eqb t.kind 0) (halted_at _ _) (record { by = λ w. goes t _ (f.stays w _) }))

  pub expect-keeps : (k : ℕ) → Keeps C (R.expect k)
  unfolding R.expect
  expect-keeps k = after token-keeps (λ t. choose (eqb t.kind k) (given t) (halted _ t))

  pub lookahead_ident-keeps : Keeps C R.lookahead_ident
  unfolding R.lookahead_ident
  lookahead_ident-keeps = after lookahead-keeps (λ t. asked _)

  pub ident-keeps : (k : ℕ) → Keeps C (R.ident k)
  unfolding R.ident
  ident-keeps k = after token-keeps (λ t. after (asked _) (λ j. choose (eqb j k) (given t) (halted fault.token t)))

  valued-keeps : (r : Read) (g : ℕ) (t : Spot) → Keeps C (R.valued r g t)
  unfolding R.valued
  valued-keeps (number n) g t = given n
  valued-keeps refused g t = halted g t

  pub int-keeps : Keeps C R.int
  unfolding R.int
  int-keeps = after (expect-keeps _) (λ t. after (asked _) (λ r. valued-keeps r fault.integer t))

  pub int_field-keeps : (width : ℕ) → Keeps C (R.int_field width)
  unfolding R.int_field
  int_field-keeps width = after int-keeps (λ n. after (asked _) (λ t. valued-keeps (fits width (number n)) fault.integer t))

  pub type-keeps : Keeps C R.type
  unfolding R.type
  type-keeps = after (expect-keeps _) (λ t. after (asked _) (λ r. valued-keeps r fault.token t))

  pub type_if_any-keeps : Keeps C R.type_if_any
  unfolding R.type_if_any
  type_if_any-keeps = after lookahead-keeps (λ t. choose (eqb t.kind _) (after token-keeps (λ u. type-keeps)) (given 0))

  known-keeps : (r : Option ℕ) (t : Spot) → Keeps C (R.known r t)
  unfolding R.known
  known-keeps (Some r) t = given r
  known-keeps None t = halted _ t

  fresh_keeps : (r : Option ℕ) (t : Spot) → Keeps C (R.fresh r t)
  unfolding R.fresh
  fresh_keeps (Some r) t = halted _ t
  fresh_keeps None t = given tt

  block_at-keeps : (r : Option ℕ) (t : Spot) → Keeps C (R.block_at r t)
  unfolding R.block_at
  block_at-keeps (Some r) t = record { by = λ w. arms (eqb (statement_at w.tables.statements.words r).code (keyword_code keyword.block)) (goes r w (f.stays w _)) (stops fault.no_block t tt) }
  block_at-keeps None t = halted _ t

  pub value_keeps : Keeps C R.value
  unfolding R.value
  value_keeps = after (expect-keeps _) (λ t. after (asked _) (λ r. known-keeps r t))

  pub new_name-keeps : Keeps C R.new_name
  unfolding R.new_name
  new_name-keeps = after (expect-keeps _) (λ t. after (asked _) (λ r. after (fresh_keeps r t) (λ u. given t)))

  pub block-keeps : Keeps C R.block
  unfolding R.block
  block-keeps = after (expect-keeps _) (λ t. after (asked _) (λ r. block_at-keeps r t))

  pub open_paren_ahead-keeps : Keeps C R.open_paren_ahead
  unfolding R.open_paren_ahead
  open_paren_ahead-keeps = after lookahead-keeps (λ t. given _)

  pub statement_ahead-keeps : Keeps C R.statement_ahead
  unfolding R.statement_ahead
  statement_ahead-keeps = after lookahead-keeps (λ t. after (asked (keyword_seen t)) (λ k. given (eqb t.kind kind.val_name || (eqb k keyword.pc || eqb k keyword.blockpc))))

  pub item_ahead-keeps : Keeps C R.item_ahead
  unfolding R.item_ahead
  item_ahead-keeps = after lookahead-keeps (λ t. given _)

  -- a rule that claims nothing claims nothing again and again
  repeated-keeps : {peek : P Bool} {rule : P (Unit {0})} → Keeps C peek → Keeps C rule → (n : ℕ) → Keeps C (repeated n peek rule)
  unfolding repeated
  repeated-keeps x y zero = halted_at _ _
  repeated-keeps x y (suc n) = after x (λ more. choose more (after y (λ u. repeated-keeps x y n)) (given tt))

  many-keeps : (own : Tables → Table) {peek : P Bool} {rule : P (Unit {0})} → Keeps C peek → Keeps C rule → Keeps C (many own peek rule)
  unfolding many
  many-keeps own x y = record { by = λ w. (repeated-keeps x y (suc (own w.tables).cap)).by w }

-- An operand claims a row of operands alone, an attribute one of attributes alone: with items-costs and the like these say that the other tables are kept

module _ {C : ℕ → World → World → Type 0} {i s o a : ℕ} (c : Costs C i s o a) where
  pub operand_does : Does C o R.operand
  unfolding R.operand R.named R.constant
  operand_does =
      after c.frame (lookahead-keeps c.frame) (λ t.
      choose c.frame (eqb t.kind kind.val_name)
      (after c.frame (value_keeps c.frame) (λ r. c.operand _))
      (after c.frame (int-keeps c.frame) (λ n. after c.frame (type_if_any-keeps c.frame) (λ width. c.operand _))))

  close_attribute_does : (r : Attribute) → Does C a (R.close_attribute r)
  unfolding R.close_attribute
  close_attribute_does r = after c.frame (expect-keeps c.frame _) (λ t. c.attribute r)

  flag_does : (k : ℕ) → Does C a (R.flag k)
  unfolding R.flag
  flag_does k = close_attribute_does _

  sign_bits_does : Does C a R.sign_bits
  unfolding R.sign_bits
  sign_bits_does = after c.frame (expect-keeps c.frame _) (λ t. after c.frame (int_field-keeps c.frame 8) (λ n. close_attribute_does _))

  range_does : Does C a R.range
  unfolding R.range
  range_does =
      after c.frame (expect-keeps c.frame _) (λ t₁.
      after c.frame (expect-keeps c.frame _) (λ t₂.
      after c.frame (int-keeps c.frame) (λ low.
      after c.frame (expect-keeps c.frame _) (λ t₃.
      after c.frame (int-keeps c.frame) (λ high.
      after c.frame (expect-keeps c.frame _) (λ t₄. close_attribute_does _))))))

  attribute_inner_does : (t : Spot) (k : ℕ) → Does C a (R.attribute_inner t k)
  unfolding R.attribute_inner
  attribute_inner_does t k =
      choose c.frame (eqb t.kind kind.known_bits) (close_attribute_does _)
      (choose c.frame (R.is_flag k) (flag_does k)
      (choose c.frame (eqb k keyword.sign_bits) sign_bits_does
      (choose c.frame (eqb k keyword.range) range_does
      (halted c.frame _ t))))

  pub attribute_does : Does C a R.attribute
  unfolding R.attribute
  attribute_does = after c.frame (expect-keeps c.frame _) (λ u. after c.frame (token-keeps c.frame) (λ t. after c.frame (asked c.frame _) (λ k. attribute_inner_does t k)))

  demanded_bits_does : Does C a R.demanded_bits
  unfolding R.demanded_bits
  demanded_bits_does =
      after c.frame (expect-keeps c.frame _) (λ u.
      after c.frame (expect-keeps c.frame _) (λ t.
      after c.frame (asked c.frame (bits_seen t)) (λ good.
      choose c.frame good (close_attribute_does (demanded_row t)) (halted c.frame fault.token t))))

  pub root_attribute_does : Does C a R.root_attribute
  unfolding R.root_attribute
  root_attribute_does =
      after c.frame (expect-keeps c.frame _) (λ u.
      after c.frame (token-keeps c.frame) (λ t.
      after c.frame (asked c.frame (keyword_seen t)) (λ k.
      choose c.frame (eqb k keyword.harvested_from_use) (flag_does k)
      (choose c.frame (eqb k keyword.demanded_bits) demanded_bits_does
      (halted c.frame fault.token t)))))

-- A statement claims a row of statements alone, beside those of its operands and attributes

module _ {C : ℕ → World → World → Type 0} {i s : ℕ} (c : Costs C i s 0 0) where
  pub attributes_keep : Keeps C R.attributes
  unfolding R.attributes
  attributes_keep = many-keeps c.frame (λ t. t.attributes) (open_paren_ahead-keeps c.frame) (attribute_does c)

  pub root_attributes_keep : Keeps C R.root_attributes
  unfolding R.root_attributes
  root_attributes_keep = many-keeps c.frame (λ t. t.attributes) (open_paren_ahead-keeps c.frame) (root_attribute_does c)

  pub further_operands_keep : (n : ℕ) → Keeps C (R.further_operands n)
  unfolding R.further_operands
  further_operands_keep zero = given c.frame tt
  further_operands_keep (suc n) = after c.frame (expect-keeps c.frame _) (λ t. after c.frame (operand_does c) (λ u. further_operands_keep n))

  pub operands_keep : (n : ℕ) → Keeps C (R.operands n)
  unfolding R.operands
  operands_keep zero = given c.frame tt
  operands_keep (suc n) = after c.frame (operand_does c) (λ u. further_operands_keep n)

  plain_side-keeps : (k : ℕ) → Keeps C (R.plain_side k)
  unfolding R.plain_side
  plain_side-keeps k = after c.frame (token-keeps c.frame) (λ t. given c.frame _)

  block_side-keeps : Keeps C R.block_side
  unfolding R.block_side
  block_side-keeps = after c.frame (token-keeps c.frame) (λ t. after c.frame (int_field-keeps c.frame 32) (λ n. given c.frame _))

  phi_side-keeps : Keeps C R.phi_side
  unfolding R.phi_side
  phi_side-keeps =
      after c.frame (token-keeps c.frame) (λ t.
      after c.frame (block-keeps c.frame) (λ b.
      after c.frame (asked c.frame (number_seen b)) (λ n.
      after c.frame (further_operands_keep n) (λ u. given c.frame (R.side (keyword_code keyword.phi) 0 b)))))

  instruction_side-keeps : (k : ℕ) → Keeps C (R.instruction_side k)
  unfolding R.instruction_side
  instruction_side-keeps k = after c.frame (token-keeps c.frame) (λ t. after c.frame (operands_keep _) (λ u. given c.frame _))

  side_of-keeps : (k j : ℕ) → Keeps C (R.side_of k j)
  unfolding R.side_of
  side_of-keeps k j =
      choose c.frame (eqb k keyword.var) (plain_side-keeps k)
      (choose c.frame (eqb k keyword.block) block_side-keeps
      (choose c.frame (eqb k keyword.phi) phi_side-keeps
      (choose c.frame (eqb k keyword.reservedinst) (plain_side-keeps k)
      (choose c.frame (eqb k keyword.reservedconst) (plain_side-keeps k)
      (choose c.frame (ltb j 59) (instruction_side-keeps j)
      (halted_at c.frame _ _))))))

  pub assignment_rhs-keeps : Keeps C R.assignment_rhs
  unfolding R.assignment_rhs
  assignment_rhs-keeps = after c.frame (lookahead-keeps c.frame) (λ t. after c.frame (asked c.frame (keyword_seen t)) (λ k. after c.frame (asked c.frame (instruction_seen t)) (λ j. side_of-keeps k j)))

  pub infer-keeps : Keeps C R.infer
  unfolding R.infer
  infer-keeps = after c.frame (ident-keeps c.frame _) (λ t. after c.frame (value_keeps c.frame) (λ r. after c.frame root_attributes_keep (λ u. given c.frame r)))

  assignment_does : Does C s R.assignment
  unfolding R.assignment
  assignment_does =
      after c.frame (new_name-keeps c.frame) (λ t.
      after c.frame (type_if_any-keeps c.frame) (λ width.
      after c.frame (expect-keeps c.frame kind.equals) (λ u.
      after c.frame (asked c.frame operands_seen) (λ o.
      after c.frame assignment_rhs-keeps (λ r.
      after c.frame (asked c.frame operands_seen) (λ p.
      after c.frame (asked c.frame attributes_seen) (λ a.
      after c.frame attributes_keep (λ v.
      after c.frame (asked c.frame attributes_seen) (λ e. c.statement (assignment_row t width r (o up_to p) (a up_to e)))))))))))

  condition_does : (code n b : ℕ) → Does C s (R.condition code n b)
  unfolding R.condition
  condition_does code n b =
      after c.frame (asked c.frame operands_seen) (λ o.
      after c.frame (operand_does c) (λ u.
      after c.frame (operand_does c) (λ v.
      after c.frame (asked c.frame operands_seen) (λ p.
      after c.frame (asked c.frame attributes_seen) (λ a. c.statement (condition_row code n b (o up_to p) a))))))

  pc_does : Does C s R.pc
  unfolding R.pc
  pc_does = after c.frame (token-keeps c.frame) (λ u. condition_does _ _ _)

  blockpc_does : Does C s R.blockpc
  unfolding R.blockpc
  blockpc_does = after c.frame (token-keeps c.frame) (λ u. after c.frame (block-keeps c.frame) (λ b. after c.frame (int_field-keeps c.frame 32) (λ n. condition_does _ n b)))

  pub statement_does : Does C s R.statement
  unfolding R.statement
  statement_does =
      after c.frame (lookahead-keeps c.frame) (λ t.
      after c.frame (asked c.frame (keyword_seen t)) (λ k.
      choose c.frame (eqb t.kind kind.val_name) assignment_does (choose c.frame (eqb k keyword.pc) pc_does blockpc_does)))

-- An item claims a row of items alone, beside those of its parts

module _ {C : ℕ → World → World → Type 0} {i : ℕ} (c : Costs C i 0 0 0) where
  statements_keep : Keeps C R.statements
  unfolding R.statements
  statements_keep = many-keeps c.frame (λ t. t.statements) (statement_ahead-keeps c.frame) (statement_does c)

  close_item_does : (k middle infer : ℕ) (o a : Span) → Does C i (R.close_item k middle infer o a)
  unfolding R.close_item
  close_item_does k middle infer o a =
      after c.frame (asked c.frame scope_seen) (λ f.
      after c.frame (asked c.frame statements_seen) (λ p.
      c.item (item_row k (f up_to p) middle infer o a) p))

  result_does : (k middle r : ℕ) (a : Span) → Does C i (R.result k middle r a)
  unfolding R.result
  result_does k middle r a =
      after c.frame (ident-keeps c.frame keyword.result) (λ t.
      after c.frame (asked c.frame operands_seen) (λ o.
      after c.frame (operand_does c) (λ u.
      after c.frame (asked c.frame operands_seen) (λ p. close_item_does k middle r (o up_to p) a))))

  cand_does : (middle : ℕ) → Does C i (R.cand middle)
  unfolding R.cand
  cand_does middle =
      after c.frame (ident-keeps c.frame keyword.cand) (λ t.
      after c.frame (asked c.frame operands_seen) (λ o.
      after c.frame (operand_does c) (λ u.
      after c.frame (operand_does c) (λ v.
      after c.frame (asked c.frame operands_seen) (λ p.
      after c.frame (asked c.frame attributes_seen) (λ a.
      after c.frame (root_attributes_keep c) (λ x.
      after c.frame (asked c.frame attributes_seen) (λ e. close_item_does candidate middle 0 (o up_to p) (a up_to e)))))))))

  infer_and_result_does : (middle : ℕ) → Does C i (R.infer_and_result middle)
  unfolding R.infer_and_result
  infer_and_result_does middle =
      after c.frame (asked c.frame attributes_seen) (λ a.
      after c.frame (infer-keeps c) (λ r.
      after c.frame (asked c.frame attributes_seen) (λ e.
      after c.frame statements_keep (λ u. result_does infer_result middle r (a up_to e)))))

  replacement_does : Does C i R.replacement
  unfolding R.replacement
  replacement_does =
      after c.frame statements_keep (λ u.
      after c.frame (asked c.frame statements_seen) (λ m.
      after c.frame (lookahead_ident-keeps c.frame) (λ k.
      choose c.frame (eqb k keyword.infer) (infer_and_result_does m) (cand_does m))))

  left_side_does : Does C i R.left_side
  unfolding R.left_side
  left_side_does =
      after c.frame statements_keep (λ u.
      after c.frame (asked c.frame statements_seen) (λ m.
      after c.frame (asked c.frame attributes_seen) (λ a.
      after c.frame (infer-keeps c) (λ r.
      after c.frame (asked c.frame attributes_seen) (λ e.
      after c.frame (asked c.frame operands_seen) (λ o. close_item_does left_hand_side m r (o up_to o) (a up_to e)))))))

  right_side_does : Does C i R.right_side
  unfolding R.right_side
  right_side_does =
      after c.frame statements_keep (λ u.
      after c.frame (asked c.frame statements_seen) (λ m.
      after c.frame (asked c.frame attributes_seen) (λ a. result_does right_hand_side m 0 (a up_to a))))

  pub item_of_does : (e : Entry) → Does C i (R.item_of e)
  unfolding R.item_of
  item_of_does Replacements = replacement_does
  item_of_does LeftHandSides = left_side_does
  item_of_does RightHandSides = right_side_does
