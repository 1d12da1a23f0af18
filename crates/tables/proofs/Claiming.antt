-- A claim's code does what the definition's rule of the claim does, whatever the text, where the reader stands and the other tables: one law, then one for each of the four tables.
-- Assumes nothing.
use Prim.Native.Nat.{ℕ, ◌+◌}
use mathlib.Core.Path.{◌≡◌, refl, sym}
use mathlib.Core.Bool.{Bool, true, false, cond}
use mathlib.Core.List.{List}
use lib.Dec.{ltb}
use lib.ListN.{length}
use Rattle.rules.specs.declared.Item.{Item}
use Rattle.rules.specs.declared.Statement.{Statement}
use Rattle.rules.specs.declared.Operand.{Operand}
use Rattle.rules.specs.declared.Attribute.{Attribute}
use Rattle.rules.specs.Faults as fault
use Rattle.rules.specs.Rows.{item_length, statement_length, operand_length, attribute_length, item_words, statement_words, operand_words, attribute_words}
use Rattle.rules.specs.World.{Table, World, go, stop, having, with, claim, claim_item, claim_statement, claim_operand, claim_attribute}
use Rattle.tables.specs.Stands.{table, Claimed}

-- the world with other items, statements, operands or attributes
abbrev pub with_items : Table → World → World
with_items t w = having (record { items = t; statements = w.tables.statements; operands = w.tables.operands; attributes = w.tables.attributes }) w

abbrev pub with_statements : Table → World → World
with_statements t w = having (record { items = w.tables.items; statements = t; operands = w.tables.operands; attributes = w.tables.attributes }) w

abbrev pub with_operands : Table → World → World
with_operands t w = having (record { items = w.tables.items; statements = w.tables.statements; operands = t; attributes = w.tables.attributes }) w

abbrev pub with_attributes : Table → World → World
with_attributes t w = having (record { items = w.tables.items; statements = w.tables.statements; operands = w.tables.operands; attributes = t }) w

-- a row more where there is room for it, and else a refusal
module _ {t : Table} {n : ℕ} {old row new : List ℕ} {r : Bool} (e : t ≡ table (length row) n old) (c : Claimed old n row r new) where
  grown : r ≡ true → with t row ≡ table (length row) (n + 1) new
  grown h = rw (e, c.words h, c.long)

  room : ltb t.count t.cap ≡ r
  room = rw e (sym c.room)

  claims : (f : Table → World) (w : World) → claim t (f (with t row)) w ≡ cond r (go tt (f (table (length row) (n + 1) new))) (stop fault.no_row w.stand.last)
  claims f w = rw room (step r grown)
    where
      step : (b : Bool) → (b ≡ true → with t row ≡ table (length row) (n + 1) new)
          → cond b (go (tt {0}) (f (with t row))) (stop fault.no_row w.stand.last) ≡ cond b (go (tt {0}) (f (table (length row) (n + 1) new))) (stop fault.no_row w.stand.last)
      step true g = rw (g refl)
      step false g = refl

module _ (w : World) (n : ℕ) (old new : List ℕ) where
  pub claims_item : (row : Item) (r : Bool) → w.tables.items ≡ table item_length n old → Claimed old n (item_words row) r new
      → claim_item row w ≡ cond r (go tt (with_items (table item_length (n + 1) new) w)) (stop fault.no_row w.stand.last)
  unfolding claim_item item_words
  claims_item row r e c = claims e c (λ (t : Table). with_items t w) w

  pub claims_statement : (row : Statement) (r : Bool) → w.tables.statements ≡ table statement_length n old → Claimed old n (statement_words row) r new
      → claim_statement row w ≡ cond r (go tt (with_statements (table statement_length (n + 1) new) w)) (stop fault.no_row w.stand.last)
  unfolding claim_statement statement_words
  claims_statement row r e c = claims e c (λ (t : Table). with_statements t w) w

  pub claims_operand : (row : Operand) (r : Bool) → w.tables.operands ≡ table operand_length n old → Claimed old n (operand_words row) r new
      → claim_operand row w ≡ cond r (go tt (with_operands (table operand_length (n + 1) new) w)) (stop fault.no_row w.stand.last)
  unfolding claim_operand operand_words
  claims_operand row r e c = claims e c (λ (t : Table). with_operands t w) w

  pub claims_attribute : (row : Attribute) (r : Bool) → w.tables.attributes ≡ table attribute_length n old → Claimed old n (attribute_words row) r new
      → claim_attribute row w ≡ cond r (go tt (with_attributes (table attribute_length (n + 1) new) w)) (stop fault.no_row w.stand.last)
  unfolding claim_attribute attribute_words
  claims_attribute row r e c = claims e c (λ (t : Table). with_attributes t w) w
