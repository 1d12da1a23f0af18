-- Every rule of the grammar ends alike in two worlds that correspond, rule by rule.
-- Assumes nothing.
use Prim.Native.Nat.{ℕ, zero, suc, ◌+◌, ◌-◌}
use mathlib.Core.Path.{◌≡◌, refl, ap, subst}
use mathlib.Core.Bool.{Bool, true, false, cond, not, ◌||◌}
use mathlib.Core.List.{List}
use lib.Dec.{eqb, ltb}
use Rattle.rules.specs.declared.Spot.{Spot}
use Rattle.rules.specs.declared.Span.{Span}
use Rattle.std.specs.Prelude.{Option, Some, None}
use Rattle.rules.specs.declared.Attribute.{Attribute}
use Rattle.rules.specs.declared.Entry.{Entry}
use Rattle.rules.specs.declared.Entry.TheVariants.{Replacements, LeftHandSides, RightHandSides}
use Rattle.rules.specs.Bytes.{same}
use Rattle.rules.specs.Faults as fault
use Rattle.rules.specs.Keywords as keyword
use Rattle.rules.specs.Tokens as kind
use Rattle.rules.specs.Instructions.{instruction_of, keyword_of}
use Rattle.rules.specs.Integers.{Read, number, refused, integer, type_width, fits}
use Rattle.rules.specs.Rows.{◌up_to◌, statement_words, words_of, keyword_code, known_bits_code, sign_bits_code, range_code, demanded_bits_code, infer_result, candidate, left_hand_side, right_hand_side}
use Rattle.rules.specs.World.{World, Res, P, asks}
use Rattle.rules.specs.Reading as R
use Rattle.reading.proofs.Parts.{keyword_seen, instruction_seen, integer_seen, width_seen, bits_seen, last_seen, scope_seen, code_seen, number_seen, statements_seen, operands_seen, attributes_seen, demanded_row, assignment_row, condition_row, item_row}
use Rattle.spacing.proofs.Sequence.{Alike}
use Rattle.spacing.proofs.Lined.{Statements, statements, Attributes, attributes, Lined, name_alike, code_alike, number_alike}
use Rattle.spacing.proofs.Patterns.{pattern-letters}
use Rattle.spacing.proofs.Twins.{Twin, Looked, over, found, Worlds, worlds, Both, goes, stops, Pair, Equal, next, next_same, test, gives, halts, asked, scoping, last_twin, claim_item_lem, claim-statement, claim-operand, claim-attribute, again, twin_kind, twin_letters, look, take}

-- the arms of a test
arms : {x y : List ℕ} {A : Type 0} {Q : A → A → Type 0} {m n m' n' : Res A} (b c : Bool) → b ≡ c → Both x y Q m m' → Both x y Q n n' → Both x y Q (cond b m n) (cond c m' n')
arms {x} {y} {Q = Q} {m = m} {n = n} {m' = m'} {n' = n'} b c e h k = subst (λ (z : Bool). Both x y Q (cond b m n) (cond z m' n')) e (at b)
  where
    at : (z : Bool) → Both x y Q (cond z m n) (cond z m' n')
    at true = h
    at false = k

-- a name is found in the same row
row_alike : {x y v w : List ℕ} → Lined statement_words (Statements x y) v w → (name name' : List ℕ) → name ≡ name' → (first k : ℕ) → R.find_row x v name first k ≡ R.find_row y w name' first k
unfolding R.find_row
row_alike l name name' e first zero = refl
row_alike l name name' e first (suc k) = λ j. cond (same (name_alike l (first + k) j) (e j)) (Some (first + k)) (row_alike l name name' e first k j)

module _ {x y : List ℕ} (alike : Alike x y) where
  -- what is seen of the texts
  worded : {A : Type 0} (f f' : List ℕ → A) → f x ≡ f' y → Pair x y Equal (asks (λ w. f w.text)) (asks (λ w. f' w.text))
  worded {A} f f' e = asked _ _ at
    where
      at : (w v : World) → Worlds x y w v → f w.text ≡ f' v.text
      at _ _ (worlds a a' i p p' q q' h h' ahead last n I O c m S S' s d k A A' l) = e

  module _ {s t : Spot} (h : Twin x y s t) where
    kind_twin : (k : ℕ) → eqb s.kind k ≡ eqb t.kind k
    kind_twin k = ap (λ (n : ℕ). eqb n k) (twin_kind alike h)

    keyword_twin : R.keyword_at x s ≡ R.keyword_at y t
    unfolding R.keyword_at
    keyword_twin = λ j. cond (eqb (twin_kind alike h j) kind.ident) (keyword_of (twin_letters alike h j)) keyword.other

    instruction_twin : R.instruction_at x s ≡ R.instruction_at y t
    unfolding R.instruction_at
    instruction_twin = λ j. cond (eqb (twin_kind alike h j) kind.ident) (instruction_of (twin_letters alike h j)) 59

    integer-seen : Pair x y Equal (asks (integer_seen s)) (asks (integer_seen t))
    integer-seen = worded (λ z. integer (R.letters z s)) (λ z. integer (R.letters z t)) (ap integer (twin_letters alike h))

    width_seen_lem : Pair x y Equal (asks (width_seen s)) (asks (width_seen t))
    width_seen_lem = worded (λ z. type_width (R.letters z s)) (λ z. type_width (R.letters z t)) (ap type_width (twin_letters alike h))

    bits-seen : Pair x y Equal (asks (bits_seen s)) (asks (bits_seen t))
    bits-seen = worded (λ z. R.all_bits (R.letters z s)) (λ z. R.all_bits (R.letters z t)) (ap R.all_bits (twin_letters alike h))

    keyword_seen_lem : Pair x y Equal (asks (keyword_seen s)) (asks (keyword_seen t))
    keyword_seen_lem = worded (λ z. R.keyword_at z s) (λ z. R.keyword_at z t) keyword_twin

    scope-seen : Pair x y Equal (asks (R.in_scope s)) (asks (R.in_scope t))
    unfolding R.in_scope
    scope-seen = asked _ _ at
      where
        at : (w v : World) → Worlds x y w v → R.in_scope s w ≡ R.in_scope t v
        at _ _ (worlds a a' i p p' q q' f f' ahead last n I O c m S S' z d k A A' l) = row_alike z (R.letters x s) (R.letters y t) (twin_letters alike h) n (m - n)

  kind_looked : {s t : Spot} → Looked x y s t → (k : ℕ) → eqb s.kind k ≡ eqb t.kind k
  kind_looked (over i e e') k = refl
  kind_looked (found s t h) k = kind_twin h k

  keyword_looked : {s t : Spot} → Looked x y s t → Pair x y Equal (asks (keyword_seen s)) (asks (keyword_seen t))
  unfolding R.keyword_at
  keyword_looked (over i e e') = worded (λ z. R.keyword_at z R.nothing) (λ z. R.keyword_at z R.nothing) refl
  keyword_looked (found s t h) = keyword_seen_lem h

  instruction_looked : {s t : Spot} → Looked x y s t → Pair x y Equal (asks (instruction_seen s)) (asks (instruction_seen t))
  unfolding R.instruction_at
  instruction_looked (over i e e') = worded (λ z. R.instruction_at z R.nothing) (λ z. R.instruction_at z R.nothing) refl
  instruction_looked (found s t h) = worded (λ z. R.instruction_at z s) (λ z. R.instruction_at z t) (instruction_twin h)

  choose : {A : Type 0} {Q : A → A → Type 0} {p q p' q' : P A} (b : Bool) → Pair x y Q p p' → Pair x y Q q q' → Pair x y Q (cond b p q) (cond b p' q')
  choose b h k = test b b refl h k

  -- what is seen of the tables
  code_seen_lem : (r : ℕ) (w v : World) → Worlds x y w v → code_seen r w ≡ code_seen r v
  code_seen_lem r _ _ (worlds a a' i p p' q q' h h' ahead last n I O c m S S' s d k A A' l) = code_alike s r

  number-seen : (r : ℕ) → Pair x y Equal (asks (number_seen r)) (asks (number_seen r))
  number-seen r = asked _ _ at
    where
      at : (w v : World) → Worlds x y w v → number_seen r w ≡ number_seen r v
      at _ _ (worlds a a' i p p' q q' h h' ahead last n I O c m S S' s d k A A' l) = number_alike s r

  last-seen : Pair x y (Twin x y) (asks last_seen) (asks last_seen)
  last-seen = asked _ _ last_twin

  scope-start : Pair x y Equal (asks scope_seen) (asks scope_seen)
  scope-start = asked _ _ at
    where
      at : (w v : World) → Worlds x y w v → scope_seen w ≡ scope_seen v
      at _ _ (worlds a a' i p p' q q' h h' ahead last n I O c m S S' s d k A A' l) = refl

  statements-seen : Pair x y Equal (asks statements_seen) (asks statements_seen)
  statements-seen = asked _ _ at
    where
      at : (w v : World) → Worlds x y w v → statements_seen w ≡ statements_seen v
      at _ _ (worlds a a' i p p' q q' h h' ahead last n I O c m S S' s d k A A' l) = refl

  operands-seen : Pair x y Equal (asks operands_seen) (asks operands_seen)
  operands-seen = asked _ _ at
    where
      at : (w v : World) → Worlds x y w v → operands_seen w ≡ operands_seen v
      at _ _ (worlds a a' i p p' q q' h h' ahead last n I O c m S S' s d k A A' l) = refl

  attributes-seen : Pair x y Equal (asks attributes_seen) (asks attributes_seen)
  attributes-seen = asked _ _ at
    where
      at : (w v : World) → Worlds x y w v → attributes_seen w ≡ attributes_seen v
      at _ _ (worlds a a' i p p' q q' h h' ahead last n I O c m S S' s d k A A' l) = refl

  -- Tokens

  expect_pair : (k : ℕ) → Pair x y (Twin x y) (R.expect k) (R.expect k)
  unfolding R.expect
  expect_pair k = next (take alike) (λ s t h. test _ _ (kind_twin h k) (gives s t h) (halts fault.token s t h))

  lookahead_ident_pair : Pair x y Equal R.lookahead_ident R.lookahead_ident
  unfolding R.lookahead_ident
  lookahead_ident_pair = next (look alike) (λ s t h. keyword_looked h)

  ident_pair : (k : ℕ) → Pair x y (Twin x y) (R.ident k) (R.ident k)
  unfolding R.ident
  ident_pair k = next (take alike) (λ s t h. next_same (keyword_seen_lem h) (λ i. choose (eqb i k) (gives s t h) (halts fault.token s t h)))

  valued_pair : (r : Read) (f : ℕ) (s t : Spot) → Twin x y s t → Pair x y Equal (R.valued r f s) (R.valued r f t)
  unfolding R.valued
  valued_pair (number n) f s t h = gives n n refl
  valued_pair refused f s t h = halts f s t h

  int_pair : Pair x y Equal R.int R.int
  unfolding R.int
  int_pair = next (expect_pair kind.int) (λ s t h. next_same (integer-seen h) (λ r. valued_pair r fault.integer s t h))

  int_field_pair : (width : ℕ) → Pair x y Equal (R.int_field width) (R.int_field width)
  unfolding R.int_field
  int_field_pair width = next_same int_pair (λ n. next last-seen (λ s t h. valued_pair (fits width (number n)) fault.integer s t h))

  type_pair : Pair x y Equal R.type R.type
  unfolding R.type
  type_pair = next (expect_pair kind.ident) (λ s t h. next_same (width_seen_lem h) (λ r. valued_pair r fault.token s t h))

  type_if_any_pair : Pair x y Equal R.type_if_any R.type_if_any
  unfolding R.type_if_any
  type_if_any_pair = next (look alike) (λ s t h. test _ _ (kind_looked h kind.colon) (next (take alike) (λ u u' k. type_pair)) (gives 0 0 refl))

  -- Names

  known_pair : (r : Option ℕ) (s t : Spot) → Twin x y s t → Pair x y Equal (R.known r s) (R.known r t)
  unfolding R.known
  known_pair (Some r) s t h = gives r r refl
  known_pair None s t h = halts fault.unknown s t h

  fresh_pair : (r : Option ℕ) (s t : Spot) → Twin x y s t → Pair x y Equal (R.fresh r s) (R.fresh r t)
  unfolding R.fresh
  fresh_pair (Some r) s t h = halts fault.redefined s t h
  fresh_pair None s t h = gives tt tt refl

  block_at_pair : (r : Option ℕ) (s t : Spot) → Twin x y s t → Pair x y Equal (R.block_at r s) (R.block_at r t)
  unfolding R.block_at
  block_at_pair (Some r) s t h =
      record { by = λ w v k. arms _ _ (ap (λ (n : ℕ). eqb n (keyword_code keyword.block)) (code_seen_lem r w v k)) (goes r r w v refl k) (stops fault.no_block s t h) }
  block_at_pair None s t h = halts fault.no_block s t h

  value_pair : Pair x y Equal R.value R.value
  unfolding R.value
  value_pair = next (expect_pair kind.val_name) (λ s t h. next_same (scope-seen h) (λ r. known_pair r s t h))

  new_name_pair : Pair x y (Twin x y) R.new_name R.new_name
  unfolding R.new_name
  new_name_pair = next (expect_pair kind.val_name) (λ s t h. next_same (scope-seen h) (λ r. next_same (fresh_pair r s t h) (λ u. gives s t h)))

  block_pair : Pair x y Equal R.block R.block
  unfolding R.block
  block_pair = next (expect_pair kind.val_name) (λ s t h. next_same (scope-seen h) (λ r. block_at_pair r s t h))

  -- Operands

  constant_pair : Pair x y Equal R.constant R.constant
  unfolding R.constant
  constant_pair = next_same int_pair (λ n. next_same type_if_any_pair (λ width. claim-operand _))

  named_pair : Pair x y Equal R.named R.named
  unfolding R.named
  named_pair = next_same value_pair (λ r. claim-operand _)

  operand_pair : Pair x y Equal R.operand R.operand
  unfolding R.operand
  operand_pair = next (look alike) (λ s t h. test _ _ (kind_looked h kind.val_name) named_pair constant_pair)

  further_operands_pair : (n : ℕ) → Pair x y Equal (R.further_operands n) (R.further_operands n)
  unfolding R.further_operands
  further_operands_pair zero = gives tt tt refl
  further_operands_pair (suc n) = next (expect_pair kind.comma) (λ s t h. next_same operand_pair (λ u. further_operands_pair n))

  operands_pair : (n : ℕ) → Pair x y Equal (R.operands n) (R.operands n)
  unfolding R.operands
  operands_pair zero = gives tt tt refl
  operands_pair (suc n) = next_same operand_pair (λ u. further_operands_pair n)

  -- Attributes

  close_attribute_pair : (r r' : Attribute) → Attributes x y r r' → Pair x y Equal (R.close_attribute r) (R.close_attribute r')
  unfolding R.close_attribute
  close_attribute_pair r r' e = next (expect_pair kind.close_paren) (λ s t h. claim-attribute r r' e)

  -- an attribute that has no pattern
  plain : (code low high : ℕ) → Attributes x y (R.attribute_row code (0 up_to 0) low high) (R.attribute_row code (0 up_to 0) low high)
  plain code low high = attributes code (words_of low) (words_of high) (0 up_to 0) (0 up_to 0) refl

  flag_pair : (k : ℕ) → Pair x y Equal (R.flag k) (R.flag k)
  unfolding R.flag
  flag_pair k = close_attribute_pair _ _ (plain (R.attribute_code k) 0 0)

  sign_bits_pair : Pair x y Equal R.sign_bits R.sign_bits
  unfolding R.sign_bits
  sign_bits_pair = next (expect_pair kind.equals) (λ s t h. next_same (int_field_pair 8) (λ n. close_attribute_pair _ _ (plain sign_bits_code n 0)))

  range_pair : Pair x y Equal R.range R.range
  unfolding R.range
  range_pair =
      next (expect_pair kind.equals) (λ s₁ t₁ h₁.
      next (expect_pair kind.open_bracket) (λ s₂ t₂ h₂.
      next_same int_pair (λ low.
      next (expect_pair kind.comma) (λ s₃ t₃ h₃.
      next_same int_pair (λ high.
      next (expect_pair kind.close_paren) (λ s₄ t₄ h₄. close_attribute_pair _ _ (plain range_code low high)))))))

  attribute_inner_pair : (s t : Spot) → Twin x y s t → (k : ℕ) → Pair x y Equal (R.attribute_inner s k) (R.attribute_inner t k)
  unfolding R.attribute_inner
  attribute_inner_pair s t h k =
      test _ _ (kind_twin h kind.known_bits) (close_attribute_pair _ _ (attributes known_bits_code (words_of 0) (words_of 0) (R.pattern_of s) (R.pattern_of t) (pattern-letters x y s t (twin_letters alike h))))
      (choose (R.is_flag k) (flag_pair k)
      (choose (eqb k keyword.sign_bits) sign_bits_pair
      (choose (eqb k keyword.range) range_pair
      (halts fault.token s t h))))

  attribute_pair : Pair x y Equal R.attribute R.attribute
  unfolding R.attribute
  attribute_pair = next (expect_pair kind.open_paren) (λ u u' z. next (take alike) (λ s t h. next_same (keyword_seen_lem h) (λ k. attribute_inner_pair s t h k)))

  demanded_bits_pair : Pair x y Equal R.demanded_bits R.demanded_bits
  unfolding R.demanded_bits
  demanded_bits_pair =
      next (expect_pair kind.equals) (λ u u' z.
      next (expect_pair kind.int) (λ s t h.
      next_same (bits-seen h) (λ good.
      choose good (close_attribute_pair (demanded_row s) (demanded_row t) (attributes demanded_bits_code (words_of 0) (words_of 0) (s.first up_to s.past) (t.first up_to t.past) (twin_letters alike h)))
      (halts fault.token s t h))))

  root_attribute_pair : Pair x y Equal R.root_attribute R.root_attribute
  unfolding R.root_attribute
  root_attribute_pair =
      next (expect_pair kind.open_paren) (λ u u' z.
      next (take alike) (λ s t h.
      next_same (keyword_seen_lem h) (λ k.
      choose (eqb k keyword.harvested_from_use) (flag_pair k)
      (choose (eqb k keyword.demanded_bits) demanded_bits_pair
      (halts fault.token s t h)))))

  open_paren_ahead_pair : Pair x y Equal R.open_paren_ahead R.open_paren_ahead
  unfolding R.open_paren_ahead
  open_paren_ahead_pair = next (look alike) (λ s t h. gives _ _ (kind_looked h kind.open_paren))

  items-room : (w v : World) → Worlds x y w v → w.tables.items.cap ≡ v.tables.items.cap
  items-room _ _ (worlds a a' i p p' q q' h h' ahead last n I O c m S S' s d k A A' l) = refl

  statements-room : (w v : World) → Worlds x y w v → w.tables.statements.cap ≡ v.tables.statements.cap
  statements-room _ _ (worlds a a' i p p' q q' h h' ahead last n I O c m S S' s d k A A' l) = refl

  attributes-room : (w v : World) → Worlds x y w v → w.tables.attributes.cap ≡ v.tables.attributes.cap
  attributes-room _ _ (worlds a a' i p p' q q' h h' ahead last n I O c m S S' s d k A A' l) = refl

  attributes_pair : Pair x y Equal R.attributes R.attributes
  unfolding R.attributes
  attributes_pair = again (λ t. t.attributes) attributes-room open_paren_ahead_pair attribute_pair

  root_attributes_pair : Pair x y Equal R.root_attributes R.root_attributes
  unfolding R.root_attributes
  root_attributes_pair = again (λ t. t.attributes) attributes-room open_paren_ahead_pair root_attribute_pair

  -- Right sides

  plain_side_pair : (k : ℕ) → Pair x y Equal (R.plain_side k) (R.plain_side k)
  unfolding R.plain_side
  plain_side_pair k = next (take alike) (λ s t h. gives _ _ refl)

  block_side_pair : Pair x y Equal R.block_side R.block_side
  unfolding R.block_side
  block_side_pair = next (take alike) (λ s t h. next_same (int_field_pair 32) (λ n. gives _ _ refl))

  phi_side_pair : Pair x y Equal R.phi_side R.phi_side
  unfolding R.phi_side
  phi_side_pair =
      next (take alike) (λ s t h.
      next_same block_pair (λ b.
      next_same (number-seen b) (λ n.
      next_same (further_operands_pair n) (λ u. gives _ _ refl))))

  instruction_side_pair : (k : ℕ) → Pair x y Equal (R.instruction_side k) (R.instruction_side k)
  unfolding R.instruction_side
  instruction_side_pair k = next (take alike) (λ s t h. next_same (operands_pair _) (λ u. gives _ _ refl))

  side_of_pair : (k i : ℕ) → Pair x y Equal (R.side_of k i) (R.side_of k i)
  unfolding R.side_of
  side_of_pair k i =
      choose (eqb k keyword.var) (plain_side_pair k)
      (choose (eqb k keyword.block) block_side_pair
      (choose (eqb k keyword.phi) phi_side_pair
      (choose (eqb k keyword.reservedinst) (plain_side_pair k)
      (choose (eqb k keyword.reservedconst) (plain_side_pair k)
      (choose (ltb i 59) (instruction_side_pair i)
      (record { by = λ w v r. stops fault.token _ _ (last_twin w v r) }))))))

  assignment_rhs_pair : Pair x y Equal R.assignment_rhs R.assignment_rhs
  unfolding R.assignment_rhs
  assignment_rhs_pair = next (look alike) (λ s t h. next_same (keyword_looked h) (λ k. next_same (instruction_looked h) (λ i. side_of_pair k i)))

  -- Statements

  assignment_pair : Pair x y Equal R.assignment R.assignment
  unfolding R.assignment
  assignment_pair =
      next new_name_pair (λ s t h.
      next_same type_if_any_pair (λ width.
      next (expect_pair kind.equals) (λ u u' z.
      next_same operands-seen (λ o.
      next_same assignment_rhs_pair (λ r.
      next_same operands-seen (λ p.
      next_same attributes-seen (λ a.
      next_same attributes_pair (λ v.
      next_same attributes-seen (λ e.
      claim-statement (assignment_row s width r (o up_to p) (a up_to e)) (assignment_row t width r (o up_to p) (a up_to e))
      (statements r.code width r.number r.block (o up_to p) (a up_to e) (s.first up_to s.past) (t.first up_to t.past) (twin_letters alike h)))))))))))

  condition_pair : (code n b : ℕ) → Pair x y Equal (R.condition code n b) (R.condition code n b)
  unfolding R.condition
  condition_pair code n b =
      next_same operands-seen (λ o.
      next_same operand_pair (λ u.
      next_same operand_pair (λ v.
      next_same operands-seen (λ p.
      next_same attributes-seen (λ a.
      claim-statement (condition_row code n b (o up_to p) a) (condition_row code n b (o up_to p) a) (statements code 0 n b (o up_to p) (a up_to a) (0 up_to 0) (0 up_to 0) refl))))))

  pc_pair : Pair x y Equal R.pc R.pc
  unfolding R.pc
  pc_pair = next (take alike) (λ s t h. condition_pair _ _ _)

  blockpc_pair : Pair x y Equal R.blockpc R.blockpc
  unfolding R.blockpc
  blockpc_pair = next (take alike) (λ s t h. next_same block_pair (λ b. next_same (int_field_pair 32) (λ n. condition_pair _ n b)))

  statement_ahead_pair : Pair x y Equal R.statement_ahead R.statement_ahead
  unfolding R.statement_ahead
  statement_ahead_pair =
      next (look alike) (λ s t h.
      next_same (keyword_looked h) (λ k.
      gives _ _ (ap (λ (b : Bool). b || (eqb k keyword.pc || eqb k keyword.blockpc)) (kind_looked h kind.val_name))))

  statement_pair : Pair x y Equal R.statement R.statement
  unfolding R.statement
  statement_pair =
      next (look alike) (λ s t h.
      next_same (keyword_looked h) (λ k.
      test _ _ (kind_looked h kind.val_name) assignment_pair (choose (eqb k keyword.pc) pc_pair blockpc_pair)))

  statements_pair : Pair x y Equal R.statements R.statements
  unfolding R.statements
  statements_pair = again (λ t. t.statements) statements-room statement_ahead_pair statement_pair

  -- Items

  close_item_pair : (k middle infer : ℕ) (o a : Span) → Pair x y Equal (R.close_item k middle infer o a) (R.close_item k middle infer o a)
  unfolding R.close_item
  close_item_pair k middle infer o a =
      next_same scope-start (λ f.
      next_same statements-seen (λ p.
      next_same (claim_item_lem (item_row k (f up_to p) middle infer o a)) (λ u. scoping p)))

  infer_pair : Pair x y Equal R.infer R.infer
  unfolding R.infer
  infer_pair = next (ident_pair keyword.infer) (λ s t h. next_same value_pair (λ r. next_same root_attributes_pair (λ u. gives r r refl)))

  result_pair : (k middle r : ℕ) (a : Span) → Pair x y Equal (R.result k middle r a) (R.result k middle r a)
  unfolding R.result
  result_pair k middle r a =
      next (ident_pair keyword.result) (λ s t h.
      next_same operands-seen (λ o.
      next_same operand_pair (λ u.
      next_same operands-seen (λ p. close_item_pair k middle r (o up_to p) a))))

  cand_pair : (middle : ℕ) → Pair x y Equal (R.cand middle) (R.cand middle)
  unfolding R.cand
  cand_pair middle =
      next (ident_pair keyword.cand) (λ s t h.
      next_same operands-seen (λ o.
      next_same operand_pair (λ u.
      next_same operand_pair (λ v.
      next_same operands-seen (λ p.
      next_same attributes-seen (λ a.
      next_same root_attributes_pair (λ z.
      next_same attributes-seen (λ e. close_item_pair candidate middle 0 (o up_to p) (a up_to e)))))))))

  infer_and_result_pair : (middle : ℕ) → Pair x y Equal (R.infer_and_result middle) (R.infer_and_result middle)
  unfolding R.infer_and_result
  infer_and_result_pair middle =
      next_same attributes-seen (λ a.
      next_same infer_pair (λ r.
      next_same attributes-seen (λ e.
      next_same statements_pair (λ u. result_pair infer_result middle r (a up_to e)))))

  replacement_pair : Pair x y Equal R.replacement R.replacement
  unfolding R.replacement
  replacement_pair =
      next_same statements_pair (λ u.
      next_same statements-seen (λ m.
      next_same lookahead_ident_pair (λ k.
      choose (eqb k keyword.infer) (infer_and_result_pair m) (cand_pair m))))

  left_side_pair : Pair x y Equal R.left_side R.left_side
  unfolding R.left_side
  left_side_pair =
      next_same statements_pair (λ u.
      next_same statements-seen (λ m.
      next_same attributes-seen (λ a.
      next_same infer_pair (λ r.
      next_same attributes-seen (λ e.
      next_same operands-seen (λ o. close_item_pair left_hand_side m r (o up_to o) (a up_to e)))))))

  right_side_pair : Pair x y Equal R.right_side R.right_side
  unfolding R.right_side
  right_side_pair =
      next_same statements_pair (λ u.
      next_same statements-seen (λ m.
      next_same attributes-seen (λ a. result_pair right_hand_side m 0 (a up_to a))))

  pub item_of_pair : (e : Entry) → Pair x y Equal (R.item_of e) (R.item_of e)
  unfolding R.item_of
  item_of_pair Replacements = replacement_pair
  item_of_pair LeftHandSides = left_side_pair
  item_of_pair RightHandSides = right_side_pair

  pub item_ahead_lem : (s t : Spot) → Looked x y s t → not (eqb s.kind 0) ≡ not (eqb t.kind 0)
  item_ahead_lem s t h = ap not (kind_looked h 0)

  item_ahead_pair : Pair x y Equal R.item_ahead R.item_ahead
  unfolding R.item_ahead
  item_ahead_pair = next (look alike) (λ s t h. gives _ _ (item_ahead_lem s t h))

  pub items_pair : (e : Entry) → Pair x y Equal (R.items e) (R.items e)
  unfolding R.items
  items_pair e = again (λ t. t.items) items-room item_ahead_pair (item_of_pair e)
