-- Well-formed tables have as many rows counted as the items that they say have: items, statements, operands, attributes.
-- Assumes nothing.
use Prim.Native.Nat.{ℕ, zero, suc, ◌+◌, ◌-◌, ◌≤◌, ◌<◌}
use mathlib.Core.Path.{◌≡◌, refl, sym, ap, ◌∙◌}
use mathlib.Core.Bool.{true, false}
use mathlib.Core.List.{List, [], ◌∷◌, ◌++◌}
use native.Mathlib.Omega.{arith}
use lib.Dec.{eqb}
use lib.ListN.{length}
use borrow.Author.Tests.{eqb-true, eqb-false}
use Rattle.rules.specs.declared.Item.{Item}
use Rattle.rules.specs.declared.Span.{Span}
use Rattle.rules.specs.declared.Statement.{Statement}
use Rattle.rules.specs.Bytes.{inside}
use Rattle.rules.specs.Rows.{◌up_to◌, item_at, statement_at, infer_result, candidate, left_hand_side, right_hand_side}
use Rattle.rules.specs.Syntax as syntax
use Rattle.rules.specs.Syntax.{flat}
use Rattle.rules.specs.View.{each, along, as_side, as_closing, statement_of, as_item, item_of, items_of}
use Rattle.rules.specs.WellFormed.{Counts, well_formed, long, operand_spans, attribute_spans, is_assignment, kind_ok, middle_ok, closing_ok, closing_arity, roots_ok}
use Rattle.rules.specs.WellFormed as formed
use Rattle.laws.proofs.Tests.{and_left, cond-true, cond-false}
use Rattle.listing.specs.References.{size}
use Rattle.byrows.proofs.Views.{is_condition, is_bare, Fit}
use Rattle.byrows.proofs.Items.{Whole}
use Rattle.byrows.proofs.Spans.{total, total_append, consecutive_total}
use Rattle.byrows.proofs.FormedRows.{between, attributes-known, row_fit}
use Rattle.byrows.proofs.FormedItems as item
use Rattle.byrows.proofs.Formed.{statements-owned, operands-owned, attributes-owned, item_inside, item_known, kind-known, middle_known, item_whole, item_row_lem}
use Rattle.bynames.proofs.Costs.{costs}
use Rattle.proof_formed.proofs.Cases.{by_side, by_statement, by_closing}

-- ---- the rows that items have
-- the operands of a right side, of a statement and of closing lines
abbrev side_operands : syntax.RightSide → ℕ
side_operands syntax.var = 0
side_operands (syntax.block k) = 0
side_operands (syntax.phi b l) = length l
side_operands syntax.reservedinst = 0
side_operands syntax.reservedconst = 0
side_operands (syntax.instruction k l) = length l

abbrev pub operands_in : syntax.Statement → ℕ
operands_in (syntax.assignment a) = side_operands a.side
operands_in (syntax.pc x y) = 2
operands_in (syntax.blockpc b k x y) = 2

abbrev pub closing_operands : syntax.Closing → ℕ
closing_operands (syntax.infer_result n l o) = 1
closing_operands (syntax.cand x y l) = 2
closing_operands (syntax.infer n l) = 0
closing_operands (syntax.result o) = 1

-- the attributes of a statement and of closing lines
abbrev pub attributes_in : syntax.Statement → ℕ
attributes_in (syntax.assignment a) = length a.attributes
attributes_in (syntax.pc x y) = 0
attributes_in (syntax.blockpc b k x y) = 0

abbrev pub closing_attributes : syntax.Closing → ℕ
closing_attributes (syntax.infer_result n l o) = length l
closing_attributes (syntax.cand x y l) = length l
closing_attributes (syntax.infer n l) = length l
closing_attributes (syntax.result o) = 0

-- a statement is one, and closing lines are none
abbrev pub one_each : syntax.Statement → ℕ
one_each s = 1

abbrev pub none_of : syntax.Closing → ℕ
none_of c = 0

-- what an item has, by what its statements and its closing lines have; and what items have
abbrev pub item_has : (syntax.Statement → ℕ) → (syntax.Closing → ℕ) → syntax.Item → ℕ
item_has cost close x = costs cost x.before + costs cost x.between + close x.closing

abbrev pub items_have : (syntax.Statement → ℕ) → (syntax.Closing → ℕ) → List syntax.Item → ℕ
items_have cost close [] = 0
items_have cost close (x ∷ xs) = item_has cost close x + items_have cost close xs

-- ---- lists of rows
pub length-each : {A : Type 0} (f : ℕ → A) (a n : ℕ) → length (each f a n) ≡ n
length-each f a zero = refl
length-each f a (suc n) = ap suc (length-each f (a + 1) n)

each_split : {A : Type 0} (f : ℕ → A) (n m a : ℕ) → each f a (n + m) ≡ each f a n ++ each f (a + n) m
each_split f zero m a = ap (each f a) (let z : 0 + m ≡ m = omega arith in z) ∙ ap (λ (k : ℕ). each f k m) (let z : a ≡ a + 0 = omega arith in z)
each_split {A} f (suc n) m a =
    ap (each f a) (let z : suc n + m ≡ suc (n + m) = omega arith in z)
    ∙ ap (λ (l : List A). f a ∷ l) (each_split f n m (a + 1) ∙ ap (λ (k : ℕ). each f (a + 1) n ++ each f k m) (let z : a + 1 + n ≡ a + suc n = omega arith in z))

-- spans that have as many rows each as a statement costs
each_cost : (span : ℕ → Span) (say : ℕ → syntax.Statement) (cost : syntax.Statement → ℕ) (n a : ℕ) → ((i : ℕ) → a ≤ i → i < a + n → long (span i) ≡ cost (say i)) → total (each span a n) ≡ costs cost (each say a n)
each_cost span say cost zero a h = refl
each_cost span say cost (suc n) a h = omega (arith, h a (omega arith) (omega arith), each_cost span say cost n (a + 1) (λ i l u. h i (omega arith) (omega arith)))

each_ones : (say : ℕ → syntax.Statement) (n a : ℕ) → costs one_each (each say a n) ≡ n
each_ones say zero a = refl
each_ones say (suc n) a = omega (arith, each_ones say n (a + 1))

-- ---- a statement's row
module _ (text S O A : List ℕ) (lo i : ℕ) (ok : formed.statement_ok text S O A lo i (statement_at S i) ≡ true) where
  abbrev row : Statement
  row = statement_at S i

  fit : Fit S O lo i
  fit = row_fit text S O A lo i ok

  two : is_condition row.code ≡ true → long row.operands ≡ 2
  unfolding size
  two e = fit.two e

  bare : is_bare row.code ≡ true → long row.operands ≡ 0
  unfolding size
  bare e = fit.bare e

  side-operands : long row.operands ≡ side_operands (as_side text S O row)
  side-operands =
      by_side text S O A row (λ q. long row.operands ≡ side_operands q)
      (λ e. bare (ap is_bare e)) (λ e. bare (ap is_bare e)) (λ e. sym (length-each _ _ _)) (λ e. bare (ap is_bare e)) (λ e. bare (ap is_bare e)) (λ n₁ n₂ n₃ n₄ n₅. sym (length-each _ _ _))

  operands_said : long row.operands ≡ operands_in (statement_of text S O A i)
  unfolding statement_of
  operands_said = by_statement text S O A row (λ s. long row.operands ≡ operands_in s) (λ e. two (ap is_condition e)) (λ e. two (ap is_condition e)) (λ n₁ n₂. side-operands)

  no_attributes : is_assignment row.code ≡ false → long row.attributes ≡ 0
  unfolding formed.attributes_fit
  no_attributes e = eqb-true (long row.attributes) 0 (sym (cond-false _ _ _ e) ∙ attributes-known text S O A lo i ok)

  attributes_said : long row.attributes ≡ attributes_in (statement_of text S O A i)
  unfolding statement_of is_assignment inside
  attributes_said =
      by_statement text S O A row (λ s. long row.attributes ≡ attributes_in s)
      (λ e. no_attributes (ap is_assignment e)) (λ e. no_attributes (ap is_assignment e)) (λ n₁ n₂. sym (length-each _ _ _))

-- ---- an item's rows
module _ (text I S O A : List ℕ) (c : Counts) (ok : well_formed text I S O A c ≡ true) where
  abbrev say : ℕ → syntax.Statement
  say = statement_of text S O A

  module _ (k : ℕ) (counted : k < c.items) where
    abbrev r : Item
    r = item_at I k

    abbrev lo : ℕ
    lo = r.statements.first

    abbrev mid : ℕ
    mid = r.middle

    abbrev hi : ℕ
    hi = r.statements.past

    whole : Whole text S O c.statements r
    whole = item_whole text I S O A c ok k counted

    -- a row of its statements
    known : (i : ℕ) → lo ≤ i → i < hi → formed.statement_ok text S O A lo i (statement_at S i) ≡ true
    known = item_row_lem text I S O A c ok k counted

    -- spans of its statements, in its two halves
    halves : (span : ℕ → Span) (cost : syntax.Statement → ℕ) → ((i : ℕ) → lo ≤ i → i < hi → long (span i) ≡ cost (say i))
        → (total (along span (lo up_to mid)) ≡ costs cost (along say (lo up_to mid))) × (total (along span (mid up_to hi)) ≡ costs cost (along say (mid up_to hi)))
    halves span cost h = (
      each_cost span say cost (mid - lo) lo (λ i l u. h i l (omega (arith, whole.begins, whole.ends))),
      each_cost span say cost (hi - mid) mid (λ i l u. h i (omega (arith, whole.begins, whole.ends)) (omega (arith, whole.begins, whole.ends))),
    )

    both_halves : (span : ℕ → Span) → total (along span r.statements) ≡ total (along span (lo up_to mid)) + total (along span (mid up_to hi))
    both_halves span =
        ap (λ (n : ℕ). total (each span lo n)) (let z : hi - lo ≡ mid - lo + (hi - mid) = omega (arith, whole.begins, whole.ends) in z)
        ∙ ap total (each_split span (mid - lo) (hi - mid) lo ∙ ap (λ (b : ℕ). each span lo (mid - lo) ++ each span b (hi - mid)) (let z : lo + (mid - lo) ≡ mid = omega (arith, whole.begins) in z))
        ∙ total_append (each span lo (mid - lo)) (each span mid (hi - mid))

    -- closing lines
    closing-known : closing_ok S O r ≡ true
    closing-known = item.closing-known text S O A c.statements r (item_inside text I S O A c ok k counted).high (item_inside text I S O A c ok k counted).up (middle_known text I S O A c ok k counted) (item_known text I S O A c ok k counted)

    roots-known : roots_ok text A r ≡ true
    roots-known = item.roots-known text S O A c.statements r (item_inside text I S O A c ok k counted).high (item_inside text I S O A c ok k counted).up (middle_known text I S O A c ok k counted) (item_known text I S O A c ok k counted)

    closing-long : long r.operands ≡ closing_arity r.kind
    unfolding closing_ok
    closing-long = eqb-true (long r.operands) (closing_arity r.kind) (and_left (eqb (long r.operands) (closing_arity r.kind)) _ closing-known)

    closing-operands : long r.operands ≡ closing_operands (as_closing text S O A r)
    unfolding closing_arity
    closing-operands =
        by_closing text S O A r (λ z. long r.operands ≡ closing_operands z)
        (λ e. closing-long ∙ ap closing_arity e) (λ e. closing-long ∙ ap closing_arity e) (λ e. closing-long ∙ ap closing_arity e)
        (λ n₁ n₂ n₃. closing-long ∙ cond-false _ _ _ n₂ ∙ cond-false _ _ _ n₃)

    right_side_lem : eqb r.kind infer_result ≡ false → eqb r.kind candidate ≡ false → eqb r.kind left_hand_side ≡ false → r.kind ≡ right_hand_side
    unfolding kind_ok
    right_side_lem n₁ n₂ n₃ =
        let b = between infer_result right_hand_side r.kind (and_left (inside infer_result right_hand_side r.kind) (middle_ok r) (kind-known text I S O A c ok k counted)) in
        last (eqb-false _ _ n₁) (eqb-false _ _ n₂) (eqb-false _ _ n₃) b.0 b.1
      where
        last : {n : ℕ} → (n ≡ 1 → ⊥) → (n ≡ 2 → ⊥) → (n ≡ 3 → ⊥) → 1 ≤ n → n ≤ 4 → n ≡ 4
        last f g h l u = omega arith

    closing-attributes : long r.attributes ≡ closing_attributes (as_closing text S O A r)
    unfolding roots_ok
    closing-attributes =
        by_closing text S O A r (λ z. long r.attributes ≡ closing_attributes z)
        (λ e. sym (length-each _ _ _)) (λ e. sym (length-each _ _ _)) (λ e. sym (length-each _ _ _))
        (λ n₁ n₂ n₃. eqb-true (long r.attributes) 0 (sym (cond-true _ _ _ (ap (λ (n : ℕ). eqb n right_hand_side) (right_side_lem n₁ n₂ n₃))) ∙ roots-known))

    -- an item has the rows that its spans have
    item_statements : long r.statements ≡ item_has one_each none_of (item_of text I S O A k)
    unfolding item_of as_item
    item_statements = omega (arith, each_ones say (mid - lo) lo, each_ones say (hi - mid) mid, whole.begins, whole.ends)

    item_operands : total (operand_spans S r) ≡ item_has operands_in closing_operands (item_of text I S O A k)
    unfolding item_of as_item operand_spans
    item_operands =
        let span : ℕ → Span = λ i. (statement_at S i).operands in
        let h = halves span operands_in (λ i l u. operands_said text S O A lo i (known i l u)) in
        omega (arith, total_append (along span r.statements) (r.operands ∷ []), both_halves span, h.0, h.1, closing-operands)

    item_attributes : total (attribute_spans S r) ≡ item_has attributes_in closing_attributes (item_of text I S O A k)
    unfolding item_of as_item attribute_spans
    item_attributes =
        let span : ℕ → Span = λ i. (statement_at S i).attributes in
        let h = halves span attributes_in (λ i l u. attributes_said text S O A lo i (known i l u)) in
        omega (arith, total_append (along span (lo up_to mid)) (r.attributes ∷ along span (mid up_to hi)), h.0, h.1, closing-attributes)

  -- ---- all items
  spans_have : (spans : Item → List Span) (cost : syntax.Statement → ℕ) (close : syntax.Closing → ℕ) → ((k : ℕ) → k < c.items → total (spans (item_at I k)) ≡ item_has cost close (item_of text I S O A k))
      → (n a : ℕ) → a + n ≤ c.items → total (flat spans (each (item_at I) a n)) ≡ items_have cost close (each (item_of text I S O A) a n)
  spans_have spans cost close h zero a l = refl
  spans_have spans cost close h (suc n) a l =
      omega (arith, total_append (spans (item_at I a)) (flat spans (each (item_at I) (a + 1) n)), h a (omega arith), spans_have spans cost close h n (a + 1) (omega arith))

  statements_have : (n a : ℕ) → a + n ≤ c.items → total (each (λ i. (item_at I i).statements) a n) ≡ items_have one_each none_of (each (item_of text I S O A) a n)
  statements_have zero a l = refl
  statements_have (suc n) a l = omega (arith, item_statements a (omega arith), statements_have n (a + 1) (omega arith))

  -- the rows that are counted
  pub items-counted : length (items_of text I S O A c.items) ≡ c.items
  unfolding items_of
  items-counted = length-each (item_of text I S O A) 0 c.items

  pub statements-counted : c.statements ≡ items_have one_each none_of (items_of text I S O A c.items)
  unfolding items_of
  statements-counted =
      omega (arith, consecutive_total (each (λ i. (item_at I i).statements) 0 c.items) 0 c.statements (statements-owned text I S O A c ok), statements_have c.items 0 (omega arith))

  pub operands-counted : c.operands ≡ items_have operands_in closing_operands (items_of text I S O A c.items)
  unfolding items_of
  operands-counted =
      omega (arith, consecutive_total (flat (operand_spans S) (each (item_at I) 0 c.items)) 0 c.operands (operands-owned text I S O A c ok), spans_have (operand_spans S) operands_in closing_operands item_operands c.items 0 (omega arith))

  pub attributes-counted : c.attributes ≡ items_have attributes_in closing_attributes (items_of text I S O A c.items)
  unfolding items_of
  attributes-counted =
      omega (arith, consecutive_total (flat (attribute_spans S) (each (item_at I) 0 c.items)) 0 c.attributes (attributes-owned text I S O A c ok), spans_have (attribute_spans S) attributes_in closing_attributes item_attributes c.items 0 (omega arith))
