-- The promises speak of the tables of an outcome: their counted rows alone. The tables that were lent, as a read leaves them, have zeros behind those rows.
-- They say the same items: so what the promises say holds of the tables that a caller has in hand.
-- Assumes nothing.
use Prim.Native.Nat.{ℕ}
use mathlib.Core.Path.{◌≡◌, refl}
use mathlib.Core.List.{List, ◌++◌}
use native.Mathlib.Omega.{arith}
use Rattle.rules.specs.declared.Entry.{Entry}
use Rattle.rules.specs.Answer as answer
use Rattle.rules.specs.Rows.{item_length, statement_length, operand_length, attribute_length}
use Rattle.rules.specs.View.{items_of}
use Rattle.rules.specs.World.{Table, Tables}
use Rattle.rules.specs.Answers.{lent, Outcome, accepted, refusal, answer_of, rows_of, padded, Ends, Reads, reading}
use Rattle.tables.proofs.Fields.{before, item_same, statement_same, operand_same, attribute_same}
use Rattle.simulation.proofs.Said.{items_in}
use Rattle.simulation.proofs.Stable.{Sized, Later}
use Rattle.simulation.proofs.Whole.{accepted-says}

-- a table with other words
abbrev pub holding : Table → List ℕ → Table
holding t ws = record { cap = t.cap; count = t.count; words = ws }

abbrev pub holding_all : Tables → List ℕ → List ℕ → List ℕ → List ℕ → Tables
holding_all t I S O A = record { items = holding t.items I; statements = holding t.statements S; operands = holding t.operands O; attributes = holding t.attributes A }

-- words behind the counted rows change no row
pub behind : (t : Tables) → Sized t → (i s o a : List ℕ) → Later t (holding_all t (t.items.words ++ i) (t.statements.words ++ s) (t.operands.words ++ o) (t.attributes.words ++ a))
behind t z i s o a =
    record {
      items = omega arith;
      statements = omega arith;
      operands = omega arith;
      attributes = omega arith;
      item = λ j h. item_same _ _ j (before item_length t.items.count t.items.words i z.items j h);
      statement = λ j h. statement_same _ _ j (before statement_length t.statements.count t.statements.words s z.statements j h);
      operand = λ j h. operand_same _ _ j (before operand_length t.operands.count t.operands.words o z.operands j h);
      attribute = λ j h. attribute_same _ _ j (before attribute_length t.attributes.count t.attributes.words a z.attributes j h);
    }

-- what a read leaves says
pub record Left (e : Entry) (text I S O A I' S' O' A' : List ℕ) (n : ℕ) : Type 0 where
  pub tables : Tables
  pub reads : reading e text (lent I S O A) ≡ accepted tables
  pub says : items_of text I' S' O' A' n ≡ items_in text tables

module _ (e : Entry) (text I S O A I' S' O' A' : List ℕ) (i s o a : ℕ) where
  by_outcome : (r : Outcome) → reading e text (lent I S O A) ≡ r → Ends r I S O A (answer.Read i s o a) I' S' O' A' → Left e text I S O A I' S' O' A' i
  unfolding answer_of rows_of padded items_of
  by_outcome (accepted t) q h =
      let says = accepted-says e text (lent I S O A) t q in
      let told = h.answers in
      let same : i ≡ t.items.count = cc in
      record {
        tables = t;
        reads = q;
        says = rw (h.leaves.items, h.leaves.statements, h.leaves.operands, h.leaves.attributes, same) (says.says _ (behind t says.sized _ _ _ _));
      }
  by_outcome (refusal n p) q h = let told = h.answers in absurd (let z : ◌≡◌ {A = ℕ} 0 1 = cc in omega arith)

  -- After a read that was accepted, the lent tables say the items that the outcome's tables say.
  pub left_say : Reads e text I S O A (answer.Read i s o a) I' S' O' A' → Left e text I S O A I' S' O' A' i
  left_say h = by_outcome (reading e text (lent I S O A)) refl h
