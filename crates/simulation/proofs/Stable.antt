-- What a row says does not change when rows are added behind it.
-- Assumes nothing.
use Prim.Native.Nat.{ℕ, suc, ◌+◌, ◌*◌, ◌≤◌, ◌<◌}
use mathlib.Core.Path.{◌≡◌, refl, ◌∙◌}
use mathlib.Core.List.{List, [], ◌∷◌, ◌++◌}
use native.Mathlib.Omega.{arith}
use native.Mathlib.Nat.{add-mul, one-mul}
use lib.ListN.{length, length-append}
use Rattle.rules.specs.declared.Item.{Item}
use Rattle.rules.specs.declared.Statement.{Statement}
use Rattle.rules.specs.declared.Operand.{Operand}
use Rattle.rules.specs.declared.Attribute.{Attribute}
use Rattle.rules.specs.Rows.{item_length, statement_length, operand_length, attribute_length, item_words, statement_words, operand_words, attribute_words, item_at, statement_at, operand_at, attribute_at, name_at}
use Rattle.rules.specs.Syntax as syntax
use Rattle.rules.specs.View.{each, operand_of, statement_of, item_of}
use Rattle.rules.specs.World.{Tables, with}
use Rattle.tables.proofs.Fields.{item_last, item_before, statement-last, statement-before, operand-last, operand-before, attribute-last, attribute-before}

-- tables that have the words of the rows that they count, and no others
pub record Sized (t : Tables) : Type 0 where
  pub items : length t.items.words ≡ t.items.count * item_length
  pub statements : length t.statements.words ≡ t.statements.count * statement_length
  pub operands : length t.operands.words ≡ t.operands.count * operand_length
  pub attributes : length t.attributes.words ≡ t.attributes.count * attribute_length

-- tables with the rows of others, and perhaps more behind them
pub record Later (t u : Tables) : Type 0 where
  pub items : t.items.count ≤ u.items.count
  pub statements : t.statements.count ≤ u.statements.count
  pub operands : t.operands.count ≤ u.operands.count
  pub attributes : t.attributes.count ≤ u.attributes.count
  pub item : (i : ℕ) → i < t.items.count → item_at u.items.words i ≡ item_at t.items.words i
  pub statement : (i : ℕ) → i < t.statements.count → statement_at u.statements.words i ≡ statement_at t.statements.words i
  pub operand : (i : ℕ) → i < t.operands.count → operand_at u.operands.words i ≡ operand_at t.operands.words i
  pub attribute : (i : ℕ) → i < t.attributes.count → attribute_at u.attributes.words i ≡ attribute_at t.attributes.words i

pub later_same : (t : Tables) → Later t t
later_same t =
    record {
      items = omega arith;
      statements = omega arith;
      operands = omega arith;
      attributes = omega arith;
      item = λ i h. refl;
      statement = λ i h. refl;
      operand = λ i h. refl;
      attribute = λ i h. refl;
    }

pub later_than : {t u v : Tables} → Later t u → Later u v → Later t v
later_than x y =
    record {
      items = omega arith;
      statements = omega arith;
      operands = omega arith;
      attributes = omega arith;
      item = λ i h. y.item i (omega arith) ∙ x.item i h;
      statement = λ i h. y.statement i (omega arith) ∙ x.statement i h;
      operand = λ i h. y.operand i (omega arith) ∙ x.operand i h;
      attribute = λ i h. y.attribute i (omega arith) ∙ x.attribute i h;
    }

-- a row more

abbrev pub with_item : Item → Tables → Tables
with_item r t = record { items = with t.items (item_words r); statements = t.statements; operands = t.operands; attributes = t.attributes }

abbrev pub with_statement : Statement → Tables → Tables
with_statement r t = record { items = t.items; statements = with t.statements (statement_words r); operands = t.operands; attributes = t.attributes }

abbrev pub with_operand : Operand → Tables → Tables
with_operand r t = record { items = t.items; statements = t.statements; operands = with t.operands (operand_words r); attributes = t.attributes }

abbrev pub with_attribute : Attribute → Tables → Tables
with_attribute r t = record { items = t.items; statements = t.statements; operands = t.operands; attributes = with t.attributes (attribute_words r) }

longer : (k n : ℕ) (ws row : List ℕ) → length ws ≡ n * k → length row ≡ k → length (ws ++ row) ≡ (n + 1) * k
longer k n ws row h l = simp (length-append, add-mul, one-mul) (omega arith)

module _ (t : Tables) (z : Sized t) where
  pub item_sized : (r : Item) → Sized (with_item r t)
  unfolding item_words
  item_sized r = record { items = longer item_length t.items.count t.items.words (item_words r) z.items refl; statements = z.statements; operands = z.operands; attributes = z.attributes }

  pub statement_sized : (r : Statement) → Sized (with_statement r t)
  unfolding statement_words
  statement_sized r = record { items = z.items; statements = longer statement_length t.statements.count t.statements.words (statement_words r) z.statements refl; operands = z.operands; attributes = z.attributes }

  pub operand_sized : (r : Operand) → Sized (with_operand r t)
  unfolding operand_words
  operand_sized r = record { items = z.items; statements = z.statements; operands = longer operand_length t.operands.count t.operands.words (operand_words r) z.operands refl; attributes = z.attributes }

  pub attribute_sized : (r : Attribute) → Sized (with_attribute r t)
  unfolding attribute_words
  attribute_sized r = record { items = z.items; statements = z.statements; operands = z.operands; attributes = longer attribute_length t.attributes.count t.attributes.words (attribute_words r) z.attributes refl }

  pub item_later : (r : Item) → Later t (with_item r t)
  item_later r =
      record {
        items = omega arith;
        statements = omega arith;
        operands = omega arith;
        attributes = omega arith;
        item = item_before t.items.words t.items.count r z.items;
        statement = λ i h. refl;
        operand = λ i h. refl;
        attribute = λ i h. refl;
      }

  pub statement_later : (r : Statement) → Later t (with_statement r t)
  statement_later r =
      record {
        items = omega arith;
        statements = omega arith;
        operands = omega arith;
        attributes = omega arith;
        item = λ i h. refl;
        statement = statement-before t.statements.words t.statements.count r z.statements;
        operand = λ i h. refl;
        attribute = λ i h. refl;
      }

  pub operand_later : (r : Operand) → Later t (with_operand r t)
  operand_later r =
      record {
        items = omega arith;
        statements = omega arith;
        operands = omega arith;
        attributes = omega arith;
        item = λ i h. refl;
        statement = λ i h. refl;
        operand = operand-before t.operands.words t.operands.count r z.operands;
        attribute = λ i h. refl;
      }

  pub attribute_later : (r : Attribute) → Later t (with_attribute r t)
  attribute_later r =
      record {
        items = omega arith;
        statements = omega arith;
        operands = omega arith;
        attributes = omega arith;
        item = λ i h. refl;
        statement = λ i h. refl;
        operand = λ i h. refl;
        attribute = attribute-before t.attributes.words t.attributes.count r z.attributes;
      }

-- the row that was claimed, in all later tables
module _ (t : Tables) (z : Sized t) (u : Tables) where
  pub item_stays : (r : Item) → Later (with_item r t) u → item_at u.items.words t.items.count ≡ r
  item_stays r l = l.item t.items.count (omega arith) ∙ item_last t.items.words t.items.count r z.items

  pub statement_stays : (r : Statement) → Later (with_statement r t) u → statement_at u.statements.words t.statements.count ≡ r
  statement_stays r l = l.statement t.statements.count (omega arith) ∙ statement-last t.statements.words t.statements.count r z.statements

  pub operand_stays : (r : Operand) → Later (with_operand r t) u → operand_at u.operands.words t.operands.count ≡ r
  operand_stays r l = l.operand t.operands.count (omega arith) ∙ operand-last t.operands.words t.operands.count r z.operands

  pub attribute_stays : (r : Attribute) → Later (with_attribute r t) u → attribute_at u.attributes.words t.attributes.count ≡ r
  attribute_stays r l = l.attribute t.attributes.count (omega arith) ∙ attribute-last t.attributes.words t.attributes.count r z.attributes

-- a name stays
pub name_stays : (text : List ℕ) {t u : Tables} → Later t u → (i : ℕ) → i < t.statements.count → name_at text u.statements.words i ≡ name_at text t.statements.words i
unfolding name_at
name_stays text l i h = rw (l.statement i h)

-- what rows of tables are seen as
module _ (text : List ℕ) where
  abbrev pub operand_in : Tables → ℕ → syntax.Operand
  operand_in u = operand_of text u.statements.words u.operands.words

  abbrev pub statement_in : Tables → ℕ → syntax.Statement
  statement_in u = statement_of text u.statements.words u.operands.words u.attributes.words

  abbrev pub item_in : Tables → ℕ → syntax.Item
  item_in u = item_of text u.items.words u.statements.words u.operands.words u.attributes.words

-- row i says x in some tables and in all later ones; n rows from i on say the elements of a list
pub record Says {X : Type 0} (see : Tables → ℕ → X) (t : Tables) (i : ℕ) (x : X) : Type 0 where
  pub by : (u : Tables) → Later t u → see u i ≡ x

pub record SayAll {X : Type 0} (see : Tables → ℕ → X) (t : Tables) (i n : ℕ) (xs : List X) : Type 0 where
  pub by : (u : Tables) → Later t u → each (see u) i n ≡ xs

module _ {X : Type 0} {see : Tables → ℕ → X} where
  pub says_later : {t u : Tables} {i : ℕ} {x : X} → Later t u → Says see t i x → Says see u i x
  says_later l s = record { by = λ v k. s.by v (later_than l k) }

  pub say_none : {t : Tables} {i : ℕ} → SayAll see t i 0 []
  say_none = record { by = λ v k. refl }

  -- a row, and the rows behind it
  pub say_more : {t : Tables} {i n : ℕ} {x : X} {xs : List X} → Says see t i x → SayAll see t (i + 1) n xs → SayAll see t i (suc n) (x ∷ xs)
  say_more s r = record { by = λ v k j. s.by v k j ∷ r.by v k j }
