-- Which rules claim how many rows of which table. No rule changes how many rows a table has room for.
-- Assumes nothing.
use Prim.Native.Nat.{ℕ, suc, ◌+◌, ◌-◌, ◌≤◌, ◌<◌}
use mathlib.Core.Path.{◌≡◌, refl}
use mathlib.Core.List.{List}
use native.Mathlib.Omega.{arith}
use Rattle.rules.specs.declared.Entry.{Entry}
use Rattle.rules.specs.World.{Table, Tables, World, go, P, with}
use Rattle.rules.specs.Reading as R
use Rattle.reading.proofs.Ends.{goes, seq, gone, claim_item-ends, claim_statement-ends, claim_operand-ends, claim_attribute-ends}
use Rattle.reading.proofs.Does as does
use Rattle.reading.proofs.Does.{Frame, Costs}

-- a table with k rows more: there was room for them
pub record Adds (k : ℕ) (a b : Table) : Type 0 where
  pub cap : b.cap ≡ a.cap
  pub count : b.count ≡ a.count + k
  pub fits : k ≤ a.cap - a.count

none_more : (a : Table) → Adds 0 a a
none_more a = record { cap = refl; count = omega arith; fits = omega arith }

more_after : {k : ℕ} {a b c : Table} → Adds 0 a b → Adds k b c → Adds k a c
more_after x y = record { cap = omega arith; count = omega arith; fits = omega arith }

-- rows of a table are what counts
pub record Adding (of : Tables → Table) (k : ℕ) (w v : World) : Type 0 where
  pub adds : Adds k (of w.tables) (of v.tables)

adding : (of : Tables → Table) → Frame (Adding of)
adding of = record { stays = λ w s. record { adds = none_more _ }; after = λ x y. record { adds = more_after x.adds y.adds } }

-- a rule that claims no row of a table, and one that claims one
abbrev pub Keeps : (Tables → Table) → {A : Type 0} → P A → Type 0
Keeps of p = does.Does (Adding of) 0 p

abbrev pub Claims : (Tables → Table) → {A : Type 0} → P A → Type 0
Claims of p = does.Does (Adding of) 1 p

module _ {of : Tables → Table} {A : Type 0} {p : P A} where
  pub keeps : Keeps of p → (w : World) (a : A) (v : World) → p w ≡ go a v → ((of v.tables).cap ≡ (of w.tables).cap) × ((of v.tables).count ≡ (of w.tables).count)
  keeps d w a v e = let h : Adds 0 (of w.tables) (of v.tables) = (gone (rw e at (d.by w))).adds in (h.cap, omega arith)

  pub claims : Claims of p → (w : World) (a : A) (v : World) → p w ≡ go a v → ((of v.tables).cap ≡ (of w.tables).cap) × ((of v.tables).count ≡ suc (of w.tables).count) × ((of w.tables).count < (of w.tables).cap)
  claims d w a v e = let h : Adds 1 (of w.tables) (of v.tables) = (gone (rw e at (d.by w))).adds in (h.cap, omega arith, omega arith)

-- a look for what comes next claims nothing
module _ (of : Tables → Table) where
  pub lookahead-keeps : Keeps of R.lookahead
  lookahead-keeps = does.lookahead-keeps (adding of)

  pub open_paren_ahead-keeps : Keeps of R.open_paren_ahead
  open_paren_ahead-keeps = does.open_paren_ahead-keeps (adding of)

  pub statement_ahead-keeps : Keeps of R.statement_ahead
  statement_ahead-keeps = does.statement_ahead-keeps (adding of)

  pub item_ahead-keeps : Keeps of R.item_ahead
  item_ahead-keeps = does.item_ahead-keeps (adding of)

-- What a claim costs a table

one_more : (t : Table) (row : List ℕ) → t.count < t.cap → Adds 1 t (with t row)
one_more t row h = record { cap = refl; count = refl; fits = omega arith }

pub items_costs : Costs (Adding (λ t. t.items)) 1 0 0 0
items_costs =
    record {
      frame = adding _;
      item = λ r n. record { by = λ w. seq _ (claim_item-ends {Q = λ u v. Adding (λ t. t.items) 1 w v} r w (λ h. record { adds = one_more _ _ h }) (λ h. tt)) (λ u v h. goes tt _ (record { adds = h.adds })) };
      statement = λ r. record { by = λ w. claim_statement-ends r w (λ h. record { adds = none_more _ }) (λ h. tt) };
      operand = λ r. record { by = λ w. claim_operand-ends r w (λ h. record { adds = none_more _ }) (λ h. tt) };
      attribute = λ r. record { by = λ w. claim_attribute-ends r w (λ h. record { adds = none_more _ }) (λ h. tt) };
    }

pub statements_costs : Costs (Adding (λ t. t.statements)) 0 1 0 0
statements_costs =
    record {
      frame = adding _;
      item = λ r n. record { by = λ w. seq _ (claim_item-ends {Q = λ u v. Adding (λ t. t.statements) 0 w v} r w (λ h. record { adds = none_more _ }) (λ h. tt)) (λ u v h. goes tt _ (record { adds = h.adds })) };
      statement = λ r. record { by = λ w. claim_statement-ends r w (λ h. record { adds = one_more _ _ h }) (λ h. tt) };
      operand = λ r. record { by = λ w. claim_operand-ends r w (λ h. record { adds = none_more _ }) (λ h. tt) };
      attribute = λ r. record { by = λ w. claim_attribute-ends r w (λ h. record { adds = none_more _ }) (λ h. tt) };
    }

pub attributes_costs : Costs (Adding (λ t. t.attributes)) 0 0 0 1
attributes_costs =
    record {
      frame = adding _;
      item = λ r n. record { by = λ w. seq _ (claim_item-ends {Q = λ u v. Adding (λ t. t.attributes) 0 w v} r w (λ h. record { adds = none_more _ }) (λ h. tt)) (λ u v h. goes tt _ (record { adds = h.adds })) };
      statement = λ r. record { by = λ w. claim_statement-ends r w (λ h. record { adds = none_more _ }) (λ h. tt) };
      operand = λ r. record { by = λ w. claim_operand-ends r w (λ h. record { adds = none_more _ }) (λ h. tt) };
      attribute = λ r. record { by = λ w. claim_attribute-ends r w (λ h. record { adds = one_more _ _ h }) (λ h. tt) };
    }

-- The rules that the loops repeat: each turn claims a row of the loop's own table

pub attribute_claims : Claims (λ t. t.attributes) R.attribute
attribute_claims = does.attribute_does attributes_costs

pub root_attribute_claims : Claims (λ t. t.attributes) R.root_attribute
root_attribute_claims = does.root_attribute_does attributes_costs

pub statement_claims : Claims (λ t. t.statements) R.statement
statement_claims = does.statement_does statements_costs

pub item_of_claims : (e : Entry) → Claims (λ t. t.items) (R.item_of e)
item_of_claims e = does.item_of_does items_costs e
