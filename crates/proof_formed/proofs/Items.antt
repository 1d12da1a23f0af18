-- The items that well-formed tables say are what the theory by names asks of items: each statement fits those before it, closing lines are as they should be, and roots are
-- assigned. So all that is proved of items by names holds of tables that a caller or a file brings.
-- Assumes nothing.
use Prim.Native.Nat.{ℕ, ◌+◌, ◌-◌, ◌≤◌, ◌<◌}
use mathlib.Core.Path.{◌≡◌, sym, ap, ◌∙◌, subst}
use mathlib.Core.Bool.{Bool, true, false, ◌&&◌}
use mathlib.Core.List.{List, map}
use native.Mathlib.Omega.{arith}
use lib.Dec.{eqb}
use borrow.Author.Tests.{eqb-true}
use Rattle.rules.specs.declared.Item.{Item}
use Rattle.rules.specs.Listing.{has}
use Rattle.rules.specs.Rows.{item_length, statement_length, operand_length, attribute_length, name_at, item_at, statement_at, demanded_bits_code, harvested_from_use_code, right_hand_side}
use Rattle.rules.specs.Syntax as syntax
use Rattle.rules.specs.Syntax.{scope}
use Rattle.rules.specs.View.{along, root_attribute_of, as_closing, operand_of, as_item, item_of, items_of}
use Rattle.rules.specs.WellFormed.{Counts, well_formed, long, only, word_fits, operands_ok, attributes_ok, statement_ok, infers, refers_to, infer_ok, closing_ok, closing_arity, roots_ok, item_ok, table_ok, tables_ok}
use Rattle.rules.specs.WellFormed as formed
use Rattle.rules.specs.Meaning.{All}
use Rattle.laws.proofs.Members.{all_append}
use Rattle.laws.proofs.Tests.{and_left, and_right, cond-true, cond-false}
use Rattle.listing.specs.References.{size}
use Rattle.listing.specs.Roots as root
use Rattle.byrows.proofs.Names.{Assigns}
use Rattle.byrows.proofs.Views.{assigning}
use Rattle.byrows.proofs.Items.{Whole, scope-rows, first-names, second-names}
use Rattle.byrows.proofs.FormedRows.{Refers, refers_to_lem}
use Rattle.byrows.proofs.FormedItems as item
use Rattle.byrows.proofs.Formed.{tables-known, tables-sound, item_inside, item_known, middle_known, item_whole, item_row_lem}
use Rattle.bynames.proofs.WellFormed.{IsName, OperandOk, RootAttributeOk, ClosingOk, Known, Wf, WfItem}
use Rattle.proof_formed.proofs.Cases.{by_closing}
use Rattle.proof_formed.proofs.Parts.{all_each, operands-ok, root_attributes_ok}
use Rattle.proof_formed.proofs.Statements.{all_names, row_name, has_row, rows_wf}

-- ---- well-formed tables
module _ (text I S O A : List ℕ) (c : Counts) (ok : well_formed text I S O A c ≡ true) where
  abbrev tables₂ : Bool
  tables₂ = table_ok operand_length O c.operands && table_ok attribute_length A c.attributes

  abbrev tables₁ : Bool
  tables₁ = table_ok statement_length S c.statements && tables₂

  words_of_lem : (size : ℕ) (words : List ℕ) (n : ℕ) → table_ok size words n ≡ true → only word_fits words ≡ true
  unfolding table_ok
  words_of_lem size words n e = and_left (only word_fits words) (formed.rest_unused size words n) (and_right (formed.count_fits size words n) (only word_fits words && formed.rest_unused size words n) e)

  behind-items : tables₁ ≡ true
  unfolding tables_ok
  behind-items = and_right (table_ok item_length I c.items) tables₁ (tables-known text I S O A c ok)

  behind-statements : tables₂ ≡ true
  behind-statements = and_right (table_ok statement_length S c.statements) tables₂ behind-items

  words-S : only word_fits S ≡ true
  words-S = words_of_lem statement_length S c.statements (and_left (table_ok statement_length S c.statements) tables₂ behind-items)

  words-O : only word_fits O ≡ true
  words-O = words_of_lem operand_length O c.operands (and_left (table_ok operand_length O c.operands) (table_ok attribute_length A c.attributes) behind-statements)

  words-A : only word_fits A ≡ true
  words-A = words_of_lem attribute_length A c.attributes (and_right (table_ok operand_length O c.operands) (table_ok attribute_length A c.attributes) behind-statements)

  module _ (k : ℕ) (counted : k < c.items) where
    abbrev x : Item
    x = item_at I k

    abbrev lo : ℕ
    lo = x.statements.first

    abbrev hi : ℕ
    hi = x.statements.past

    whole : Whole text S O c.statements x
    whole = item_whole text I S O A c ok k counted

    up : lo ≤ hi
    up = (item_inside text I S O A c ok k counted).up

    high : hi ≤ c.statements
    high = (item_inside text I S O A c ok k counted).high

    middle : formed.middle_ok x ≡ true
    middle = middle_known text I S O A c ok k counted

    known : item_ok text S O A x ≡ true
    known = item_known text I S O A c ok k counted

    row_ok : (i : ℕ) → lo ≤ i → i < hi → statement_ok text S O A lo i (statement_at S i) ≡ true
    row_ok = item_row_lem text I S O A c ok k counted

    wf : Wf (scope (as_item text S O A x))
    wf =
        subst Wf (sym (scope-rows text S O A c.statements (tables-sound text I S O A c ok) x whole))
        (rows_wf text S O A c.statements words-S words-O words-A lo hi high whole.rows whole.apart row_ok (hi - lo) (omega (arith, up)))

    -- a row of its own that assigns
    named : (j : ℕ) → lo ≤ j → j < hi → assigning S j ≡ true → IsName (name_at text S j)
    named = row_name text S O A c.statements words-S words-O words-A lo hi high whole.rows whole.apart row_ok

    in_scope_lem : (j : ℕ) → Assigns (assigning S) lo hi j → has (name_at text S j) (scope (as_item text S O A x)) ≡ true
    in_scope_lem j a =
        subst (λ (z : List syntax.Statement). has (name_at text S j) z ≡ true) (sym (scope-rows text S O A c.statements (tables-sound text I S O A c ok) x whole))
        (has_row text S O A c.statements words-S words-O words-A lo hi high whole.rows whole.apart row_ok (hi - lo) j (omega (arith, up)) a.low (omega (arith, up, a.high)) a.so)

    roots_assigned : (rows : List ℕ) → All (Assigns (assigning S) lo hi) rows → Known (scope (as_item text S O A x)) (map (name_at text S) rows)
    roots_assigned rows a = all_names (Assigns (assigning S) lo hi) (λ m. has m (scope (as_item text S O A x)) ≡ true) (name_at text S) in_scope_lem rows a

    roots-known : Known (scope (as_item text S O A x)) (syntax.roots (as_closing text S O A x))
    roots-known =
        all_append (λ m. has m (scope (as_item text S O A x)) ≡ true) (syntax.first_roots (as_closing text S O A x)) (syntax.second_roots (as_closing text S O A x))
        (subst (Known (scope (as_item text S O A x))) (sym (first-names text S O A x)) (roots_assigned (root.first_roots O x) whole.firsts))
        (subst (Known (scope (as_item text S O A x))) (sym (second-names text S O A x)) (roots_assigned (root.second_roots O x) whole.seconds))

    -- its closing lines
    closing-known : (eqb (long x.operands) (closing_arity x.kind) && operands_ok S O lo hi x.operands) ≡ true
    unfolding closing_ok
    closing-known = item.closing-known text S O A c.statements x high up middle known

    operand : (j : ℕ) → x.operands.first ≤ j → j < x.operands.past → OperandOk (operand_of text S O j)
    operand = operands-ok text S O lo hi named words-O x.operands (and_right (eqb (long x.operands) (closing_arity x.kind)) (operands_ok S O lo hi x.operands) closing-known)

    many : long x.operands ≡ closing_arity x.kind
    many = eqb-true (long x.operands) (closing_arity x.kind) (and_left (eqb (long x.operands) (closing_arity x.kind)) (operands_ok S O lo hi x.operands) closing-known)

    first-operand : 1 ≤ closing_arity x.kind → OperandOk (operand_of text S O x.operands.first)
    first-operand h = operand x.operands.first (omega arith) (omega (arith, many))

    second-operand : 2 ≤ closing_arity x.kind → OperandOk (operand_of text S O (x.operands.first + 1))
    second-operand h = operand (x.operands.first + 1) (omega arith) (omega (arith, many))

    infer-name : infers x.kind ≡ true → IsName (name_at text S x.infer)
    unfolding infer_ok
    infer-name e =
        let f : Refers S lo x.middle x.infer = refers_to_lem S lo x.middle x.infer (sym (cond-true (infers x.kind) (refers_to S lo x.middle x.infer) (eqb x.infer 0) e) ∙ item.infer-known text S O A c.statements x high up middle known) in
        named x.infer f.low (omega (arith, f.high, whole.ends)) f.so

    root_attributes_lem : eqb x.kind right_hand_side ≡ false → All RootAttributeOk (along (root_attribute_of text A) x.attributes)
    unfolding roots_ok
    root_attributes_lem e =
        root_attributes_ok text A words-A demanded_bits_code harvested_from_use_code x.attributes
        (sym (cond-false (eqb x.kind right_hand_side) (eqb (long x.attributes) 0) (attributes_ok text A demanded_bits_code harvested_from_use_code x.attributes) e) ∙ item.roots-known text S O A c.statements x high up middle known)

    closing-ok : ClosingOk (as_closing text S O A x)
    unfolding infers closing_arity
    closing-ok =
        by_closing text S O A x ClosingOk
        (λ e. (infer-name (ap infers e), root_attributes_lem (ap (λ (n : ℕ). eqb n right_hand_side) e), first-operand (rw e (omega arith))))
        (λ e. (first-operand (rw e (omega arith)), second-operand (rw e (omega arith)), root_attributes_lem (ap (λ (n : ℕ). eqb n right_hand_side) e)))
        (λ e. (infer-name (ap infers e), root_attributes_lem (ap (λ (n : ℕ). eqb n right_hand_side) e)))
        (λ n₁ n₂ n₃. first-operand (rw (n₂, n₃) (omega arith)))

    -- the item
    pub item_wf : WfItem (item_of text I S O A k)
    unfolding item_of as_item
    item_wf = record { wf = wf; ok = closing-ok; known = roots-known }

  -- all items
  pub items_wf : All WfItem (items_of text I S O A c.items)
  unfolding items_of
  items_wf = all_each WfItem (item_of text I S O A) c.items 0 (λ k l u. item_wf k (omega arith))
