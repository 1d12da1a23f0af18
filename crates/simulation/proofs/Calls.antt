-- Demand 3, told of the public read calls. `Reads` is what such a call ensures of its answer and of every word that it is lent: so what follows holds of
-- the tables that a caller has in hand when a call has answered 0.
-- Assumes nothing.
use Prim.Native.Nat.{ℕ, ◌≤◌}
use mathlib.Core.Path.{◌≡◌, refl, sym, ap, ◌∙◌, subst}
use mathlib.Core.Logic.{◌↔◌}
use mathlib.Core.List.{List}
use native.Mathlib.Omega.{arith}
use lib.ListN.{length}
use Rattle.rules.specs.declared.Entry.{Entry}
use Rattle.rules.specs.Answer.{Answer}
use Rattle.rules.specs.Answer as answer
use Rattle.rules.specs.Syntax.{Item}
use Rattle.rules.specs.Meaning.{Mem, SameMeanings}
use Rattle.rules.specs.Printing.{printed_all}
use Rattle.rules.specs.View.{items_of}
use Rattle.rules.specs.World.{Tables}
use Rattle.rules.specs.Answers.{Lent, lent, Outcome, accepted, refusal, answer_of, Reads, reading, read_report, refusal_report, report_of}
use Rattle.rules.specs.Calls.{AsManyRows, Call, said_by}
use Rattle.reading.proofs.Fuel.{never_zero}
use Rattle.bynames.proofs.Listed.{Lists}
use Rattle.simulation.proofs.Said.{items_in}
use Rattle.simulation.proofs.Left.{Left, left_say}
use Rattle.simulation.proofs.Canonical.{canonical}
use Rattle.simulation.proofs.Listing.{print_lists}
use Rattle.simulation.proofs.ReadingBack.{ReadsBack, reading-back}
use Rattle.simulation.proofs.AsManyRows.{never_seven}

-- ---- what a report tells: an accepted read is told by 0, and no refusal is
pub report_read : (i s o a : ℕ) → report_of (answer.Read i s o a) ≡ read_report i s o a
unfolding report_of
report_read i s o a = refl

pub report_refused : (n p : ℕ) → report_of (answer.Refused n p) ≡ refusal_report n p
unfolding report_of
report_refused n p = refl

pub told_read : (e : Entry) (text : List ℕ) (l : Lent) (i s o a : ℕ) → report_of (answer_of (reading e text l)) ≡ read_report i s o a → answer_of (reading e text l) ≡ answer.Read i s o a
unfolding answer_of report_of
told_read e text l i s o a q = by (reading e text l) refl q
  where
    by : (w : Outcome) → reading e text l ≡ w → report_of (answer_of w) ≡ read_report i s o a → answer_of w ≡ answer.Read i s o a
    by (accepted t) k z =
        let i₁ : t.items.count ≡ i = cc in
        let s₁ : t.statements.count ≡ s = cc in
        let o₁ : t.operands.count ≡ o = cc in
        let a₁ : t.attributes.count ≡ a = cc in
        rw (i₁, s₁, o₁, a₁) refl
    by (refusal n p) k z =
        let zero-told : n ≡ 0 = cc in
        absurd (never_zero e text l p (k ∙ ap (λ (m : ℕ). refusal m p) zero-told))

pub answered : (e : Entry) (text I S O A : List ℕ) {r : Answer} {I' S' O' A' : List ℕ} {i s o a : ℕ} → Reads e text I S O A r I' S' O' A' → report_of r ≡ read_report i s o a → r ≡ answer.Read i s o a
answered e text I S O A {i = i} {s} {o} {a} h q = h.answers ∙ told_read e text (lent I S O A) i s o a (ap report_of (sym h.answers) ∙ q)

-- what an accepted call ensures
pub call-reads : {e : Entry} (c : Call e) → Reads e c.text c.I c.S c.O c.A (answer.Read c.items c.statements c.operands c.attributes) c.I' c.S' c.O' c.A'
call-reads {e} c = subst (λ (z : Answer). Reads e c.text c.I c.S c.O c.A z c.I' c.S' c.O' c.A') (answered e c.text c.I c.S c.O c.A c.reads c.tells) c.reads

-- what a call on the print of some items answers, and what it leaves says
pub record Again (xs : List Item) (r : Answer) (I' S' O' A' : List ℕ) : Type 0 where
  pub items : ℕ
  pub statements : ℕ
  pub operands : ℕ
  pub attributes : ℕ
  pub answers : r ≡ answer.Read items statements operands attributes
  pub means : SameMeanings xs (items_of (printed_all xs) I' S' O' A' items)
  pub prints : printed_all (items_of (printed_all xs) I' S' O' A' items) ≡ printed_all xs

pub same_tables : {r : Outcome} (t u : Tables) → r ≡ accepted t → r ≡ accepted u → t ≡ u
same_tables t u p q = cc

module _ {e : Entry} where
  left : (c : Call e) → Left e c.text c.I c.S c.O c.A c.I' c.S' c.O' c.A' c.items
  left c = left_say e c.text c.I c.S c.O c.A c.I' c.S' c.O' c.A' c.items c.statements c.operands c.attributes (call-reads c)

  -- Two calls of the same entry point leave tables that print to equal bytes exactly when they mean the same.
  pub calls_canonical : (c d : Call e) → (printed_all (said_by c) ≡ printed_all (said_by d)) ↔ SameMeanings (said_by c) (said_by d)
  calls_canonical c d =
      let x = left c in
      let y = left d in
      rw (x.says, y.says) (canonical e c.text d.text (lent c.I c.S c.O c.A) (lent d.I d.S d.O d.A) x.tables y.tables x.reads y.reads)

  -- Of each item that is left, a print lists each assignment reachable from the roots once, after all that it refers to, and no other.
  pub call-lists : (c : Call e) (x : Item) → Mem x (said_by c) → Lists x
  call-lists c =
      let y = left c in
      rw y.says (print_lists e c.text (lent c.I c.S c.O c.A) y.tables y.reads)

  again : (xs : List Item) (I S O A : List ℕ) (r : Answer) (I' S' O' A' : List ℕ) → ReadsBack e xs (lent I S O A) → Reads e (printed_all xs) I S O A r I' S' O' A' → Again xs r I' S' O' A'
  unfolding answer_of
  again xs I S O A r I' S' O' A' b h =
      let t : Tables = b.tables in
      let told : r ≡ answer.Read t.items.count t.statements.count t.operands.count t.attributes.count = h.answers ∙ ap answer_of b.reads in
      let y = left_say e (printed_all xs) I S O A I' S' O' A' t.items.count t.statements.count t.operands.count t.attributes.count (subst (λ (z : Answer). Reads e (printed_all xs) I S O A z I' S' O' A') told h) in
      let same : items_of (printed_all xs) I' S' O' A' t.items.count ≡ items_in (printed_all xs) t = y.says ∙ ap (items_in (printed_all xs)) (same_tables y.tables t y.reads b.reads) in
      record {
        items = t.items.count;
        statements = t.statements.count;
        operands = t.operands.count;
        attributes = t.attributes.count;
        answers = told;
        means = subst (SameMeanings xs) (sym same) b.means;
        prints = ap printed_all same ∙ b.prints;
      }

  -- The print of a call's items, of at most 65,536 bytes, is accepted by every call of the same entry point that is lent as many rows of each table as it has bytes;
  -- what that call leaves means the same and prints the same bytes.
  pub call-reads-back : (c : Call e) → length (printed_all (said_by c)) ≤ 65536 → (I S O A : List ℕ) → AsManyRows (printed_all (said_by c)) (lent I S O A)
      → (r : Answer) (I' S' O' A' : List ℕ) → Reads e (printed_all (said_by c)) I S O A r I' S' O' A' → Again (said_by c) r I' S' O' A'
  call-reads-back c short I S O A many r I' S' O' A' h = again (said_by c) I S O A r I' S' O' A' (back short many) h
    where
      back : length (printed_all (said_by c)) ≤ 65536 → AsManyRows (printed_all (said_by c)) (lent I S O A) → ReadsBack e (said_by c) (lent I S O A)
      back =
          let y = left c in
          rw y.says (λ s m. reading-back e c.text (lent c.I c.S c.O c.A) y.tables y.reads s (lent I S O A) m)

pub refused_seven : (o : Outcome) (p : ℕ) → answer_of o ≡ answer.Refused 7 p → o ≡ refusal 7 p
unfolding answer_of
refused_seven (accepted t) p h = absurd (let z : ◌≡◌ {A = ℕ} 0 1 = cc in omega arith)
refused_seven (refusal n q) p h = cc

-- A call that is lent as many rows of each table as the text has bytes never answers 7.
pub call_never_seven : (e : Entry) (text I S O A : List ℕ) → AsManyRows text (lent I S O A) → (r : Answer) (I' S' O' A' : List ℕ) → Reads e text I S O A r I' S' O' A' → (p : ℕ) → r ≡ answer.Refused 7 p → ⊥
call_never_seven e text I S O A many r I' S' O' A' h p q =
    never_seven e text (lent I S O A) many p (refused_seven (reading e text (lent I S O A)) p (sym h.answers ∙ q))
