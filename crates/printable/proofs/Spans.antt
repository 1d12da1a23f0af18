-- The text and the counts of well-formed tables are small, and so are the spans of their rows.
-- Assumes nothing.
use Prim.Native.Nat.{ℕ, ◌-◌, ◌≤◌, ◌<◌}
use mathlib.Core.Path.{◌≡◌, refl}
use mathlib.Core.Logic.{inl, inr}
use mathlib.Core.Bool.{Bool, true, ◌&&◌}
use mathlib.Core.List.{List, [], ◌∷◌}
use native.Mathlib.Decide.{dec_lt}
use native.Mathlib.Omega.{arith}
use lib.ListN.{length}
use borrow.Author.Tests.{leb-true}
use Rattle.rules.specs.declared.Span.{Span}
use Rattle.rules.specs.declared.Item.{Item}
use Rattle.rules.specs.Meaning.{Mem}
use Rattle.rules.specs.Rows.{◌up_to◌, item_length, statement_length, operand_length, attribute_length, item_at, statement_at}
use Rattle.rules.specs.Syntax.{flat}
use Rattle.rules.specs.View.{each, along}
use Rattle.rules.specs.WellFormed.{Counts, short_text, table_ok, consecutive, operand_spans, attribute_spans, statements_owned, operands_owned, attributes_owned, kinds_ok, tables_ok, rows_owned, items_ok, well_formed}
use Rattle.laws.proofs.Tests.{and_left, and_right}
use Rattle.laws.proofs.Members.{mem_left, mem_right, mem_flat}
use Rattle.laws.proofs.Consecutive.{Inside, consecutive-inside}
use Rattle.byrows.proofs.Spans.{mem_each}
use Rattle.byrows.proofs.Formed.{tables-known, rows-owned, fits_count, operands-owned, owner_of}
use Rattle.pieces.specs.Bounds.{Few}

-- at most 65,536 rows of each table are counted
pub record Small (c : Counts) : Type 0 where
  pub items : c.items ≤ 65536
  pub statements : c.statements ≤ 65536
  pub operands : c.operands ≤ 65536
  pub attributes : c.attributes ≤ 65536

-- a span inside so few rows
few : (n : ℕ) → n ≤ 65536 → (s : Span) → Inside 0 n s → Few s
few n h s i = record { first = omega (arith, i.up, i.high); past = omega (arith, i.high) }

module _ (text I S O A : List ℕ) (c : Counts) (ok : well_formed text I S O A c ≡ true) where
  pub text-short : length text ≤ 65536
  unfolding well_formed short_text
  text-short = leb-true (length text) 65536 (and_left (short_text text) (tables_ok I S O A c && (rows_owned I S c && items_ok text I S O A c.items)) ok)

  -- ---- counts
  count_small : (k : ℕ) (words : List ℕ) (n : ℕ) → table_ok k words n ≡ true → n ≤ 65536
  count_small k words n e = omega (arith, fits_count text I S O A c ok k words n e)

  pub counts_small : Small c
  unfolding tables_ok
  counts_small =
      let items : Bool = table_ok item_length I c.items in
      let statements : Bool = table_ok statement_length S c.statements in
      let operands : Bool = table_ok operand_length O c.operands in
      let attributes : Bool = table_ok attribute_length A c.attributes in
      let all = tables-known text I S O A c ok in
      let three = and_right items (statements && (operands && attributes)) all in
      let two = and_right statements (operands && attributes) three in
      record {
        items = count_small item_length I c.items (and_left items (statements && (operands && attributes)) all);
        statements = count_small statement_length S c.statements (and_left statements (operands && attributes) three);
        operands = count_small operand_length O c.operands (and_left operands attributes two);
        attributes = count_small attribute_length A c.attributes (and_right operands attributes two);
      }

  -- ---- the spans of an item's operands and attributes
  attributes-owned : consecutive 0 c.attributes (flat (attribute_spans S) (each (item_at I) 0 c.items)) ≡ true
  unfolding rows_owned attributes_owned
  attributes-owned =
      let statements : Bool = statements_owned I c.items c.statements in
      let operands : Bool = operands_owned I S c.items c.operands in
      let attributes : Bool = attributes_owned I S c.items c.attributes in
      and_right operands attributes (and_right (kinds_ok I c.items) (operands && attributes) (and_right statements (kinds_ok I c.items && (operands && attributes)) (rows-owned text I S O A c ok)))

  module _ (k : ℕ) (counted : k < c.items) where
    abbrev item : Item
    item = item_at I k

    item_among : Mem item (each (item_at I) 0 c.items)
    item_among = mem_each (item_at I) c.items 0 k (omega arith) (omega arith)

    operand-span : (x : Span) → Mem x (operand_spans S item) → Few x
    operand-span x m =
        few c.operands counts_small.operands x
        (consecutive-inside (flat (operand_spans S) (each (item_at I) 0 c.items)) 0 c.operands (operands-owned text I S O A c ok) x
        (mem_flat (operand_spans S) x item (each (item_at I) 0 c.items) item_among m))

    attribute-span : (x : Span) → Mem x (attribute_spans S item) → Few x
    attribute-span x m =
        few c.attributes counts_small.attributes x
        (consecutive-inside (flat (attribute_spans S) (each (item_at I) 0 c.items)) 0 c.attributes attributes-owned x
        (mem_flat (attribute_spans S) x item (each (item_at I) 0 c.items) item_among m))

    abbrev operands_at : ℕ → Span
    operands_at i = (statement_at S i).operands

    abbrev attributes_at : ℕ → Span
    attributes_at i = (statement_at S i).attributes

    abbrev attributes_before : List Span
    attributes_before = along attributes_at (item.statements.first up_to item.middle)

    abbrev attributes_behind : List Span
    attributes_behind = along attributes_at (item.middle up_to item.statements.past)

    -- those of its closing lines
    pub closing-operands : Few item.operands
    unfolding operand_spans
    closing-operands = operand-span item.operands (mem_right item.operands (along operands_at item.statements) (item.operands ∷ []) (inl refl))

    pub closing-attributes : Few item.attributes
    unfolding attribute_spans
    closing-attributes = attribute-span item.attributes (mem_right item.attributes attributes_before (item.attributes ∷ attributes_behind) (inl refl))

    -- and those of its statements
    module _ (i : ℕ) (low : item.statements.first ≤ i) (high : i < item.statements.past) where
      statement-operands : Few (operands_at i)
      unfolding operand_spans
      statement-operands =
          operand-span (operands_at i)
          (mem_left (operands_at i) (along operands_at item.statements) (item.operands ∷ [])
          (mem_each operands_at (item.statements.past - item.statements.first) item.statements.first i low (omega arith)))

      statement-attributes : Few (attributes_at i)
      unfolding attribute_spans
      statement-attributes = attribute-span (attributes_at i) (at (dec_lt i item.middle))
        where
          at : Dec (i < item.middle) → Mem (attributes_at i) (attribute_spans S item)
          at (yes h) = mem_left (attributes_at i) attributes_before (item.attributes ∷ attributes_behind) (mem_each attributes_at (item.middle - item.statements.first) item.statements.first i low (omega arith))
          at (no n) = mem_right (attributes_at i) attributes_before (item.attributes ∷ attributes_behind) (inr (mem_each attributes_at (item.statements.past - item.middle) item.middle i (omega arith) (omega arith)))

  -- ---- the spans of the counted statements
  pub operands-few : (i : ℕ) → i < c.statements → Few (statement_at S i).operands
  operands-few i h = let w = owner_of text I S O A c ok i h in statement-operands w.k (omega (arith, w.to)) i w.low w.high

  pub attributes-few : (i : ℕ) → i < c.statements → Few (statement_at S i).attributes
  attributes-few i h = let w = owner_of text I S O A c ok i h in statement-attributes w.k (omega (arith, w.to)) i w.low w.high
