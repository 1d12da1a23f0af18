-- What an accepted read leaves is well formed: `accepted_formed` of the tables of an outcome with zeros behind their rows, up to the lengths that were lent;
-- `left_formed` and `call_formed` of the tables that a caller has in hand when a read call has answered 0.
-- Assumes nothing.
use Prim.Native.Nat.{ℕ, ◌-◌}
use mathlib.Core.Path.{◌≡◌, refl}
use mathlib.Core.Bool.{true}
use mathlib.Core.List.{List}
use native.Mathlib.Omega.{arith}
use borrow.Author.Tests.{le-leb}
use lib.ListN.{length}
use Rattle.rules.specs.declared.Entry.{Entry}
use Rattle.rules.specs.Answer as answer
use Rattle.rules.specs.Rows.{item_at, item_length, statement_length, operand_length, attribute_length}
use Rattle.rules.specs.Syntax.{flat}
use Rattle.rules.specs.View.{each}
use Rattle.rules.specs.WellFormed.{counts, consecutive, operand_spans, attribute_spans, statements_owned, operands_owned, attributes_owned, kind_ok, kinds_ok, rows_owned, item_ok, items_ok, tables_ok, short_text, well_formed}
use Rattle.rules.specs.World.{Tables}
use Rattle.rules.specs.Answers.{Lent, lent, start, Outcome, accepted, refusal, reading, answer_of, rows_of, padded, Ends, Reads}
use Rattle.rules.specs.Calls.{Call}
use Rattle.reading.proofs.Fitting.{accepted-fits}
use Rattle.wellformed.proofs.Along.{passes_rows}
use Rattle.simulation.proofs.Stable.{Later}
use Rattle.simulation.proofs.Left.{holding_all, behind}
use Rattle.simulation.proofs.Calls.{call-reads}
use Rattle.accepted.proofs.Padding.{and_both, padded-ok}
use Rattle.accepted.proofs.Whole.{ItemedAll, accepted-short, accepted_itemed}

module _ (e : Entry) (text : List ℕ) (l : Lent) (t : Tables) (h : reading e text l ≡ accepted t) where
  abbrev I : List ℕ
  I = padded l.items t.items.words

  abbrev S : List ℕ
  S = padded l.statements t.statements.words

  abbrev O : List ℕ
  O = padded l.operands t.operands.words

  abbrev A : List ℕ
  A = padded l.attributes t.attributes.words

  all : ItemedAll text (start text l).tables t
  all = accepted_itemed e text l t h

  held : Tables
  held = holding_all t I S O A

  held_later : Later t held
  unfolding padded held
  held_later = behind t all.holds.sized _ _ _ _

  -- each table by itself
  pub tables-ok : tables_ok I S O A (counts t.items.count t.statements.count t.operands.count t.attributes.count) ≡ true
  unfolding tables_ok
  tables-ok =
      let f = accepted-fits e text l t h in
      let hd = all.holds in
      and_both (padded-ok item_length t.items.count l.items t.items.words hd.sized.items f.items hd.items)
      (and_both (padded-ok statement_length t.statements.count l.statements t.statements.words hd.sized.statements f.statements hd.statements)
      (and_both (padded-ok operand_length t.operands.count l.operands t.operands.words hd.sized.operands f.operands hd.operands)
      (padded-ok attribute_length t.attributes.count l.attributes t.attributes.words hd.sized.attributes f.attributes hd.attributes)))

  -- rows consecutive, each owned exactly once
  pub rows-owned : rows_owned I S (counts t.items.count t.statements.count t.operands.count t.attributes.count) ≡ true
  unfolding rows_owned statements_owned kinds_ok operands_owned attributes_owned start held
  rows-owned =
      let zero-off : t.items.count - 0 ≡ t.items.count = omega arith in
      let st : consecutive 0 t.statements.count (each (λ i. (item_at I i).statements) 0 t.items.count) ≡ true = rw zero-off at (all.statements held held_later) in
      let ki = passes_rows (λ i. kind_ok (item_at I i)) t.items.count (λ i b. all.kinds held held_later i (omega arith) b) in
      let op : consecutive 0 t.operands.count (flat (operand_spans S) (each (item_at I) 0 t.items.count)) ≡ true = rw zero-off at (all.operands held held_later) in
      let at : consecutive 0 t.attributes.count (flat (attribute_spans S) (each (item_at I) 0 t.items.count)) ≡ true = rw zero-off at (all.attributes held held_later) in
      and_both st (and_both ki (and_both op at))

  -- what the items and all that they own say
  pub items-ok : items_ok text I S O A t.items.count ≡ true
  unfolding items_ok start held
  items-ok = passes_rows (λ i. item_ok text S O A (item_at I i)) t.items.count (λ i b. all.oks held held_later i (omega arith) b)

  -- What an accepted read leaves is well formed: its rows, and zeros behind them up to the lengths that were lent.
  pub accepted_formed : well_formed text I S O A (counts t.items.count t.statements.count t.operands.count t.attributes.count) ≡ true
  unfolding well_formed short_text
  accepted_formed = and_both (le-leb (length text) 65536 (accepted-short e text l t h)) (and_both tables-ok (and_both rows-owned items-ok))

module _ (e : Entry) (text I S O A I' S' O' A' : List ℕ) (i s o a : ℕ) where
  by_outcome : (r : Outcome) → reading e text (lent I S O A) ≡ r → Ends r I S O A (answer.Read i s o a) I' S' O' A' → well_formed text I' S' O' A' (counts i s o a) ≡ true
  unfolding answer_of rows_of
  by_outcome (accepted t) q h =
      let told = h.answers in
      let same-i : i ≡ t.items.count = cc in
      let same_s : s ≡ t.statements.count = cc in
      let same-o : o ≡ t.operands.count = cc in
      let same-a : a ≡ t.attributes.count = cc in
      rw (h.leaves.items, h.leaves.statements, h.leaves.operands, h.leaves.attributes, same-i, same_s, same-o, same-a) (accepted_formed e text (lent I S O A) t q)
  by_outcome (refusal n p) q h = let told = h.answers in absurd (let z : ◌≡◌ {A = ℕ} 0 1 = cc in omega arith)

  -- After a read that answered 0, the lent tables are well formed.
  pub left_formed : Reads e text I S O A (answer.Read i s o a) I' S' O' A' → well_formed text I' S' O' A' (counts i s o a) ≡ true
  left_formed h = by_outcome (reading e text (lent I S O A)) refl h

-- The same, of a call.
pub call_formed : {e : Entry} (c : Call e) → well_formed c.text c.I' c.S' c.O' c.A' (counts c.items c.statements c.operands c.attributes) ≡ true
call_formed {e} c = left_formed e c.text c.I c.S c.O c.A c.I' c.S' c.O' c.A' c.items c.statements c.operands c.attributes (call-reads c)
