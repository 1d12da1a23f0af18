-- Section 5 of docs/RULES.md. What reading goes on in: the text, where the reader stands, the scope, and the four tables. A rule of the grammar is a parser over it.
-- Assumes nothing.
use Rattle.std.specs.Prelude.{ℕ, zero, suc, ◌+◌, Bool, cond, List, ◌++◌, ltb}
use Rattle.rules.specs.declared.Spot.{Spot}
use Rattle.rules.specs.declared.Item.{Item}
use Rattle.rules.specs.declared.Statement.{Statement}
use Rattle.rules.specs.declared.Operand.{Operand}
use Rattle.rules.specs.declared.Attribute.{Attribute}
use Rattle.rules.specs.Rows.{item_words, statement_words, operand_words, attribute_words}
use Rattle.rules.specs.Faults as fault

-- a table: how many rows it has room for, how many are claimed, and their words
pub record Table : Type 0 where
  pub cap : ℕ
  pub count : ℕ
  pub words : List ℕ

pub record Tables : Type 0 where
  pub items : Table
  pub statements : Table
  pub operands : Table
  pub attributes : Table

-- where the reader stands: past the last token lexed; the token looked at and not yet taken, of kind 0 where there is none; the last token found
pub record Stand : Type 0 where
  pub at : ℕ
  pub ahead : Spot
  pub last : Spot

-- scope is the row of the item's first statement
pub record World : Type 0 where
  pub text : List ℕ
  pub stand : Stand
  pub scope : ℕ
  pub tables : Tables

-- a rule goes on with a value, or stops: what is at fault, and the token at fault
pub data Res (A : Type 0) : Type 0 where
  go : A → World → Res A
  stop : ℕ → Spot → Res A

abbrev pub P : Type 0 → Type 0
P A = World → Res A

abbrev pub bind : {A B : Type 0} → Res A → (A → P B) → Res B
bind (go a w) f = f a w
bind (stop n t) f = stop n t

infixl 20 ◌>>=◌
infixl 20 ◌>>◌
-- one rule after another
abbrev pub ◌>>=◌ : {A B : Type 0} → P A → (A → P B) → P B
(m >>= f) w = bind (m w) f

abbrev pub ◌>>◌ : {A B : Type 0} → P A → P B → P B
(m >> k) w = bind (m w) (λ _. k)

abbrev pub give : {A : Type 0} → A → P A
give a w = go a w

abbrev pub refuse : {A : Type 0} → ℕ → Spot → P A
refuse n t w = stop n t

-- what can be seen of the world
unfoldable pub asks : {A : Type 0} → (World → A) → P A
asks f w = go (f w) w

-- the world with the reader standing elsewhere, with other tables, and with another scope
abbrev pub standing : Stand → World → World
standing s w = record { text = w.text; stand = s; scope = w.scope; tables = w.tables }

abbrev pub having : Tables → World → World
having t w = record { text = w.text; stand = w.stand; scope = w.scope; tables = t }

abbrev pub scoped : ℕ → World → World
scoped n w = record { text = w.text; stand = w.stand; scope = n; tables = w.tables }

-- the table with a row more
abbrev pub with : Table → List ℕ → Table
with t row = record { cap = t.cap; count = t.count + 1; words = t.words ++ row }

-- a claim: the world with a row more, or, where no row is left, a refusal at the last token found
abbrev pub claim : Table → World → P (Unit {0})
claim t v w = cond (ltb t.count t.cap) (go tt v) (stop fault.no_row w.stand.last)

unfoldable pub claim_item : Item → P (Unit {0})
claim_item r w =
    claim w.tables.items
    (having
    (record { items = with w.tables.items (item_words r); statements = w.tables.statements; operands = w.tables.operands; attributes = w.tables.attributes })
    w)
    w

unfoldable pub claim_statement : Statement → P (Unit {0})
claim_statement r w =
    claim w.tables.statements
    (having
    (record { items = w.tables.items; statements = with w.tables.statements (statement_words r); operands = w.tables.operands; attributes = w.tables.attributes })
    w)
    w

unfoldable pub claim_operand : Operand → P (Unit {0})
claim_operand r w =
    claim w.tables.operands
    (having
    (record { items = w.tables.items; statements = w.tables.statements; operands = with w.tables.operands (operand_words r); attributes = w.tables.attributes })
    w)
    w

unfoldable pub claim_attribute : Attribute → P (Unit {0})
claim_attribute r w =
    claim w.tables.attributes
    (having
    (record { items = w.tables.items; statements = w.tables.statements; operands = w.tables.operands; attributes = with w.tables.attributes (attribute_words r) })
    w)
    w

-- how many rows are claimed
abbrev pub statement_count : P ℕ
statement_count = asks (λ w. w.tables.statements.count)

abbrev pub operand_count : P ℕ
operand_count = asks (λ w. w.tables.operands.count)

abbrev pub attribute_count : P ℕ
attribute_count = asks (λ w. w.tables.attributes.count)

-- a rule again and again, as long as a look says so
unfoldable pub repeated : ℕ → P Bool → P (Unit {0}) → P (Unit {0})
repeated zero peek rule = λ w. stop fault.fuel w.stand.last
repeated (suc fuel) peek rule = do
  more ← peek
  cond more (do
    rule
    repeated fuel peek rule) (give tt)

-- each turn claims a row of a table, so one turn more than the table has room for is enough
unfoldable pub many : (Tables → Table) → P Bool → P (Unit {0}) → P (Unit {0})
many of peek rule w = repeated (suc (of w.tables).cap) peek rule w
