-- The rows that accepted texts take: they fit the tables that were lent, and a printed text takes no more than the text whose print it is.
-- Assumes nothing.
use Prim.Native.Nat.{ℕ, suc, ◌≤◌}
use mathlib.Core.Path.{◌≡◌, refl, ap, ◌∙◌}
use mathlib.Core.Logic.{inl, inr}
use mathlib.Core.List.{List, [], ◌∷◌}
use native.Mathlib.Omega.{arith}
use lib.ListN.{length}
use Rattle.rules.specs.declared.Entry.{Entry}
use Rattle.rules.specs.Answer as answer
use Rattle.rules.specs.Syntax.{Statement, Closing, Item}
use Rattle.rules.specs.Meaning.{Mem}
use Rattle.rules.specs.Answers.{Lent, lent, accepted, answer_of}
use Rattle.rules.specs.Calls.{Call, counts_of, said_by}
use Rattle.promises.specs.Rows.{RowsFit, NoShorter}
use Rattle.reading.proofs.Fitting.{accepted-fits}
use Rattle.bynames.proofs.BackLists.{canons}
use Rattle.bynames.proofs.Listed.{Lists}
use Rattle.bynames.proofs.Costs.{listed_cost}
use Rattle.simulation.proofs.Left.{left_say}
use Rattle.simulation.proofs.Calls.{call-reads}
use Rattle.accepted.proofs.Formed.{call_formed}
use Rattle.proof_formed.proofs.Counts.{operands_in, closing_operands, attributes_in, closing_attributes, one_each, none_of, items_have, items-counted, statements-counted, operands-counted, attributes-counted}

-- ---- rows that fit
pub call_fits : {e : Entry} (c : Call e) → RowsFit (lent c.I c.S c.O c.A) c.items c.statements c.operands c.attributes
unfolding answer_of
call_fits {e} c =
    let h = call-reads c in
    let y = left_say e c.text c.I c.S c.O c.A c.I' c.S' c.O' c.A' c.items c.statements c.operands c.attributes h in
    let f = accepted-fits e c.text (lent c.I c.S c.O c.A) y.tables y.reads in
    let told : answer.Read c.items c.statements c.operands c.attributes ≡ answer_of (accepted y.tables) = h.answers ∙ ap answer_of y.reads in
    let i₁ : c.items ≡ y.tables.items.count = cc in
    let s₁ : c.statements ≡ y.tables.statements.count = cc in
    let o₁ : c.operands ≡ y.tables.operands.count = cc in
    let a₁ : c.attributes ≡ y.tables.attributes.count = cc in
    record { items = rw i₁ f.items; statements = rw s₁ f.statements; operands = rw o₁ f.operands; attributes = rw a₁ f.attributes }

pub longer_fits : {l l' : Lent} {i s o a : ℕ} → NoShorter l l' → RowsFit l i s o a → RowsFit l' i s o a
longer_fits n f =
    record {
      items = omega (arith, n.items, f.items);
      statements = omega (arith, n.statements, f.statements);
      operands = omega (arith, n.operands, f.operands);
      attributes = omega (arith, n.attributes, f.attributes);
    }

-- ---- rows of what a print says
-- what is listed has no more of anything than the items have
canons_have : (cost : Statement → ℕ) (close : Closing → ℕ) (xs : List Item) → ((x : Item) → Mem x xs → Lists x) → items_have cost close (canons xs) ≤ items_have cost close xs
canons_have cost close [] f = omega arith
canons_have cost close (x ∷ xs) f = omega (arith, listed_cost cost x (f x (inl refl)), canons_have cost close xs (λ y h. f y (inr h)))

canons_long : (xs : List Item) → length (canons xs) ≡ length xs
canons_long [] = refl
canons_long (x ∷ xs) = ap suc (canons_long xs)

-- one call left no more rows than another
pub record RowsWithin {e : Entry} (d c : Call e) : Type 0 where
  pub items : d.items ≤ c.items
  pub statements : d.statements ≤ c.statements
  pub operands : d.operands ≤ c.operands
  pub attributes : d.attributes ≤ c.attributes

module _ {e : Entry} (d c : Call e) (said : said_by d ≡ canons (said_by c)) (lists : (x : Item) → Mem x (said_by c) → Lists x) where
  has_within : (cost : Statement → ℕ) (close : Closing → ℕ) (n m : ℕ) → n ≡ items_have cost close (said_by d) → m ≡ items_have cost close (said_by c) → n ≤ m
  has_within cost close n m p q = let same = ap (items_have cost close) said in omega (arith, canons_have cost close (said_by c) lists)

  pub canons_within : RowsWithin d c
  canons_within =
      let f = call_formed d in
      let g = call_formed c in
      record {
        items = omega (arith, items-counted d.text d.I' d.S' d.O' d.A' (counts_of d) f, items-counted c.text c.I' c.S' c.O' c.A' (counts_of c) g, ap length said, canons_long (said_by c));
        statements = has_within one_each none_of _ _ (statements-counted d.text d.I' d.S' d.O' d.A' (counts_of d) f) (statements-counted c.text c.I' c.S' c.O' c.A' (counts_of c) g);
        operands = has_within operands_in closing_operands _ _ (operands-counted d.text d.I' d.S' d.O' d.A' (counts_of d) f) (operands-counted c.text c.I' c.S' c.O' c.A' (counts_of c) g);
        attributes = has_within attributes_in closing_attributes _ _ (attributes-counted d.text d.I' d.S' d.O' d.A' (counts_of d) f) (attributes-counted c.text c.I' c.S' c.O' c.A' (counts_of c) g);
      }
