-- Rows that are claimed: how a claim ends, one law for the four tables; and the index behind a claim and behind an item.
-- Assumes nothing.
use Prim.Native.Nat.{ℕ, ◌+◌, ◌*◌, ◌/◌, ◌<◌, min}
use mathlib.Core.Path.{◌≡◌, refl, sym, ap, ◌∙◌}
use mathlib.Core.Bool.{Bool, true, false}
use mathlib.Core.List.{List, ◌++◌}
use native.Mathlib.Omega.{arith}
use borrow.Author.Tests.{ltb-true}
use lib.ListN.{length, take}
use lib.Seq.{length-take-le}
use Rattle.std.specs.Borrow.{MutBor}
use Rattle.std.specs.Prelude.{Ok, Err}
use Rattle.rules.specs.declared.Item.{Item}
use Rattle.rules.specs.declared.Statement.{Statement}
use Rattle.rules.specs.declared.Operand.{Operand}
use Rattle.rules.specs.declared.Attribute.{Attribute}
use Rattle.rules.specs.Faults as fault
use Rattle.rules.specs.Rows.{statement_length, item_words, statement_words, operand_words, attribute_words, letters_of, name_at}
use Rattle.rules.specs.World as W
use Rattle.rules.specs.World.{go, stop, P, having, with}
use Rattle.tables.specs.Stands.{Claimed}
use Rattle.tables.proofs.Fields.{name-counted, statement-before}
use Rattle.index.specs.Slots.{slot_of}
use Rattle.index.proofs.Links.{linked_alike, linked_later}
use Rattle.parser.specs.declared.Parser.{Parser}
use Rattle.parser.specs.declared.fault.Fault.{Fault}
use Rattle.parser.specs.declared.fault.What.TheVariants as what
use Rattle.parser.proofs.Chains.{kept}
use Rattle.parser.specs.Stands.{world, Lent, Ready, Keeps, Runs, end_scope}

module _ (text S S' : List ℕ) (row : Statement) (n : ℕ) (room : n < min 65536 (length S / statement_length)) (e : take ((n + 1) * statement_length) S' ≡ take (n * statement_length) S ++ statement_words row) where
  size : length (take (n * statement_length) S) ≡ n * statement_length
  size = length-take-le _ S (omega arith)

  -- the names of the rows before are what they were
  named : (r : ℕ) → r < n → name_at text S' r ≡ name_at text S r
  unfolding name_at
  named r l =
      sym (name-counted text S' (n + 1) r (omega arith))
      ∙ rw e (ap (λ (x : Statement). letters_of text x.name) (statement-before (take (n * statement_length) S) n row size r l))
      ∙ name-counted text S n r l

-- rows stay countable
pub few : {old row new : List ℕ} {n : ℕ} {r : Bool} → Claimed old n row r new → r ≡ true → n < 65536
few {old} {row} {new} {n} w e =
    let low : n < min 65536 (length old / length row) = ltb-true _ _ (sym w.room ∙ e) in
    omega arith

going : (rule : P (Unit {0})) (p q : Parser) → Keeps p q → (Ready p → Ready q) → rule (world p) ≡ go tt (world q) → Runs rule p (Ok tt) q
going rule p q k h e = record { tells = sym e; keeps = k; ready = h }

halting : (rule : P (Unit {0})) (p q : Parser) (f : Fault) → Keeps p q → f.what ≡ what.NoRow → f.at ≡ p.stand.last → rule (world p) ≡ stop fault.no_row p.stand.last → Runs rule p (Err f) q
halting rule p q f k n a e = record { tells = rw (n, a) (sym e); keeps = k; ready = λ h. tt }

-- items
module _ (p : Parser) (t : MutBor (List ℕ)) (v : Lent p.items t) (row : Item) {r : Bool} (w : Claimed p.items.now p.counts.items (item_words row) r t.now) where
  abbrev after_item : ℕ → Parser
  after_item n = record { text = p.text; stand = p.stand; scope = p.scope; counts = record { items = n; statements = p.counts.statements; operands = p.counts.operands; attributes = p.counts.attributes }; items = t; statements = p.statements; operands = p.operands; attributes = p.attributes; index = p.index }

  keeps_item : (n : ℕ) → Keeps p (after_item n)
  keeps_item n = let k = kept p in record { text = refl; items = v; statements = k.statements; operands = k.operands; attributes = k.attributes; index = k.index }

  there_item : r ≡ true → W.claim_item row (world p) ≡ go tt (world (after_item (p.counts.items + 1)))
  unfolding W.claim_item world item_words
  there_item e = simp (sym w.room ∙ e, w.words e, w.long)

  none_item : r ≡ false → W.claim_item row (world p) ≡ stop fault.no_row p.stand.last
  unfolding W.claim_item world item_words
  none_item e = simp (sym w.room ∙ e)

  pub claimed_item : r ≡ true → Runs (W.claim_item row) p (Ok tt) (after_item (p.counts.items + 1))
  claimed_item e = going _ p _ (keeps_item _) (λ h. record { holds = h.holds }) (there_item e)

  pub no_item : r ≡ false → (f : Fault) → f.what ≡ what.NoRow → f.at ≡ p.stand.last → Runs (W.claim_item row) p (Err f) (after_item p.counts.items)
  no_item e f n a = halting _ p _ f (keeps_item _) n a (none_item e)

-- statements
module _ (p : Parser) (t : MutBor (List ℕ)) (v : Lent p.statements t) (row : Statement) {r : Bool} (w : Claimed p.statements.now p.counts.statements (statement_words row) r t.now) where
  abbrev after_statement : ℕ → Parser
  after_statement n = record { text = p.text; stand = p.stand; scope = p.scope; counts = record { items = p.counts.items; statements = n; operands = p.counts.operands; attributes = p.counts.attributes }; items = p.items; statements = t; operands = p.operands; attributes = p.attributes; index = p.index }

  keeps_statement : (n : ℕ) → Keeps p (after_statement n)
  keeps_statement n = let k = kept p in record { text = refl; items = k.items; statements = v; operands = k.operands; attributes = k.attributes; index = k.index }

  -- a statement's row is none of those held
  more_ready : r ≡ true → Ready p → Ready (after_statement (p.counts.statements + 1))
  unfolding statement_words
  more_ready e h =
      let d = h.holds in
      let low = d.low in
      let within = d.within in
      let room : p.counts.statements < min 65536 (length p.statements.now / statement_length) = ltb-true _ _ (sym w.room ∙ e) in
      record {
        holds =
            record {
              low = omega arith;
              within = omega arith;
              linked = linked_alike (λ j l. ap slot_of (named p.text.bytes.now p.statements.now t.now row p.counts.statements room (w.words e) j (omega arith))) d.linked;
            };
      }

  there_statement : r ≡ true → W.claim_statement row (world p) ≡ go tt (world (after_statement (p.counts.statements + 1)))
  unfolding W.claim_statement world statement_words
  there_statement e = simp (sym w.room ∙ e, w.words e, w.long)

  none_statement : r ≡ false → W.claim_statement row (world p) ≡ stop fault.no_row p.stand.last
  unfolding W.claim_statement world statement_words
  none_statement e = simp (sym w.room ∙ e)

  pub claimed_statement : r ≡ true → Runs (W.claim_statement row) p (Ok tt) (after_statement (p.counts.statements + 1))
  claimed_statement e = going _ p _ (keeps_statement _) (more_ready e) (there_statement e)

  pub no_statement : r ≡ false → (f : Fault) → f.what ≡ what.NoRow → f.at ≡ p.stand.last → Runs (W.claim_statement row) p (Err f) (after_statement p.counts.statements)
  no_statement e f n a = halting _ p _ f (keeps_statement _) n a (none_statement e)

-- operands
module _ (p : Parser) (t : MutBor (List ℕ)) (v : Lent p.operands t) (row : Operand) {r : Bool} (w : Claimed p.operands.now p.counts.operands (operand_words row) r t.now) where
  abbrev after_operand : ℕ → Parser
  after_operand n = record { text = p.text; stand = p.stand; scope = p.scope; counts = record { items = p.counts.items; statements = p.counts.statements; operands = n; attributes = p.counts.attributes }; items = p.items; statements = p.statements; operands = t; attributes = p.attributes; index = p.index }

  keeps_operand : (n : ℕ) → Keeps p (after_operand n)
  keeps_operand n = let k = kept p in record { text = refl; items = k.items; statements = k.statements; operands = v; attributes = k.attributes; index = k.index }

  there_operand : r ≡ true → W.claim_operand row (world p) ≡ go tt (world (after_operand (p.counts.operands + 1)))
  unfolding W.claim_operand world operand_words
  there_operand e = simp (sym w.room ∙ e, w.words e, w.long)

  none_operand : r ≡ false → W.claim_operand row (world p) ≡ stop fault.no_row p.stand.last
  unfolding W.claim_operand world operand_words
  none_operand e = simp (sym w.room ∙ e)

  pub claimed_operand : r ≡ true → Runs (W.claim_operand row) p (Ok tt) (after_operand (p.counts.operands + 1))
  claimed_operand e = going _ p _ (keeps_operand _) (λ h. record { holds = h.holds }) (there_operand e)

  pub no_operand : r ≡ false → (f : Fault) → f.what ≡ what.NoRow → f.at ≡ p.stand.last → Runs (W.claim_operand row) p (Err f) (after_operand p.counts.operands)
  no_operand e f n a = halting _ p _ f (keeps_operand _) n a (none_operand e)

-- attributes
module _ (p : Parser) (t : MutBor (List ℕ)) (v : Lent p.attributes t) (row : Attribute) {r : Bool} (w : Claimed p.attributes.now p.counts.attributes (attribute_words row) r t.now) where
  abbrev after_attribute : ℕ → Parser
  after_attribute n = record { text = p.text; stand = p.stand; scope = p.scope; counts = record { items = p.counts.items; statements = p.counts.statements; operands = p.counts.operands; attributes = n }; items = p.items; statements = p.statements; operands = p.operands; attributes = t; index = p.index }

  keeps_attribute : (n : ℕ) → Keeps p (after_attribute n)
  keeps_attribute n = let k = kept p in record { text = refl; items = k.items; statements = k.statements; operands = k.operands; attributes = v; index = k.index }

  there_attribute : r ≡ true → W.claim_attribute row (world p) ≡ go tt (world (after_attribute (p.counts.attributes + 1)))
  unfolding W.claim_attribute world attribute_words
  there_attribute e = simp (sym w.room ∙ e, w.words e, w.long)

  none_attribute : r ≡ false → W.claim_attribute row (world p) ≡ stop fault.no_row p.stand.last
  unfolding W.claim_attribute world attribute_words
  none_attribute e = simp (sym w.room ∙ e)

  pub claimed_attribute : r ≡ true → Runs (W.claim_attribute row) p (Ok tt) (after_attribute (p.counts.attributes + 1))
  claimed_attribute e = going _ p _ (keeps_attribute _) (λ h. record { holds = h.holds }) (there_attribute e)

  pub no_attribute : r ≡ false → (f : Fault) → f.what ≡ what.NoRow → f.at ≡ p.stand.last → Runs (W.claim_attribute row) p (Err f) (after_attribute p.counts.attributes)
  no_attribute e f n a = halting _ p _ f (keeps_attribute _) n a (none_attribute e)

module _ (p : Parser) where
  -- an item is closed: the next begins behind its rows
  pub scope_ends : Runs end_scope p (Ok tt) (record { text = p.text; stand = p.stand; scope = p.counts.statements; counts = p.counts; items = p.items; statements = p.statements; operands = p.operands; attributes = p.attributes; index = p.index })
  unfolding end_scope world
  scope_ends =
      let k = kept p in
      record {
        tells = refl;
        keeps = record { text = refl; items = k.items; statements = k.statements; operands = k.operands; attributes = k.attributes; index = k.index };
        ready =
            λ h.
            let d = h.holds in
            let low = d.low in
            record { holds = record { low = omega arith; within = d.within; linked = linked_later low d.linked } };
      }
