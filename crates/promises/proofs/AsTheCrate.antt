-- Demand 2, what the lent rows decide: nothing but whether the answer is 7.
-- With as many rows of each table as the text has bytes a read never answers 7. Its number, place and counts are then those of the definition, `answer_to`, whatever tables were lent;
-- and so they are with fewer rows, unless the answer is 7. A text that `answer_to` accepts is answered 7 exactly where its rows do not fit. No text claims more rows than it has bytes.
-- Assumes nothing.
use Prim.Native.Nat.{ℕ, ◌+◌, ◌*◌, ◌≤◌, max}
use mathlib.Core.Path.{◌≡◌, refl, sym, ap, ◌∙◌}
use mathlib.Core.List.{List}
use native.Mathlib.Omega.{arith}
use borrow.Author.Tests.{eqb-true, eqb-false}
use lib.Dec.{eqb}
use lib.ListN.{length}
use Rattle.rules.specs.declared.Entry.{Entry}
use Rattle.rules.specs.Answer.{Answer}
use Rattle.rules.specs.Answer as answer
use Rattle.rules.specs.Rows.{item_length, statement_length, operand_length, attribute_length}
use Rattle.rules.specs.Answers.{Lent, lent, Outcome, accepted, refusal, answer_of, rows_of, padded, Reads, reading, report_of, read_report, refusal_report}
use Rattle.rules.specs.Calls.{AsManyRows}
use Rattle.promises.specs.Rows.{row_for_each_byte, answer_to, IsNotSeven, RowsFit, NoShorter, SameRows}
use Rattle.laws.proofs.Cases.{by_cases}
use Rattle.reading.proofs.Progress as progress
use Rattle.reading.proofs.Capacity.{Below, NotSeven, Same, room, longer, seven_over, same_unless_seven, same_whatever_lent}
use Rattle.reading.proofs.Fitting.{accepted-fits}
use Rattle.simulation.proofs.AsManyRows.{never_seven, same_answer}
use Rattle.simulation.proofs.Calls.{refused_seven, call_never_seven, told_read, answered}

as_many : (text : List ℕ) → AsManyRows text (row_for_each_byte text)
as_many text = record { items = omega arith; statements = omega arith; operands = omega arith; attributes = omega arith }

not_seven : {o : Outcome} {r : Answer} → r ≡ answer_of o → IsNotSeven r → NotSeven o
unfolding answer_of report_of
not_seven q h p k = h p (ap report_of (q ∙ ap answer_of k))

-- a refusal is told by its number
told_seven : (o : Outcome) (p : ℕ) → report_of (answer_of o) ≡ refusal_report 7 p → answer_of o ≡ answer.Refused 7 p
unfolding answer_of report_of
told_seven (accepted t) p q = absurd (let z : ◌≡◌ {A = ℕ} 0 7 = cc in omega arith)
told_seven (refusal n m) p q =
    let n₁ : n ≡ 7 = cc in
    let m₁ : m ≡ p = cc in
    rw (n₁, m₁) refl

module _ (e : Entry) (text : List ℕ) {I S O A : List ℕ} {r : Answer} {I' S' O' A' : List ℕ} (h : Reads e text I S O A r I' S' O' A') where
  -- As many rows as the text has bytes: never 7, and the definition's answer.
  pub as_many_never_seven : AsManyRows text (lent I S O A) → IsNotSeven r
  as_many_never_seven many p q = call_never_seven e text I S O A many r I' S' O' A' h p (h.answers ∙ told_seven (reading e text (lent I S O A)) p (ap report_of (sym h.answers) ∙ q))

  -- Whatever is lent: the definition's answer, or 7.
  pub unless_seven : IsNotSeven r → report_of r ≡ answer_to e text
  unfolding answer_to
  unless_seven n = ap report_of (h.answers ∙ sym (same_answer e text (row_for_each_byte text) (lent I S O A) (as_many text) (not_seven h.answers n)).answers)

  pub as_many_answer : AsManyRows text (lent I S O A) → report_of r ≡ answer_to e text
  as_many_answer many = unless_seven (as_many_never_seven many)

  -- Two reads of the same text that were lent whatever tables, neither of which answers 7, answer the same and leave the same rows.
  module _ {I₁ S₁ O₁ A₁ : List ℕ} {r₁ : Answer} {I₁' S₁' O₁' A₁' : List ℕ} (h₁ : Reads e text I₁ S₁ O₁ A₁ r₁ I₁' S₁' O₁' A₁') (n : IsNotSeven r) (n₁ : IsNotSeven r₁) where
    alike : Same (reading e text (lent I S O A)) (reading e text (lent I₁ S₁ O₁ A₁))
    alike = same_whatever_lent e text (lent I S O A) (lent I₁ S₁ O₁ A₁) (not_seven h.answers n) (not_seven h₁.answers n₁)

    pub same_whatever_answer : report_of r ≡ report_of r₁
    same_whatever_answer = ap report_of (h.answers ∙ alike.answers ∙ sym h₁.answers)

    pub same_whatever_items : SameRows (length I) (length I₁) I' I₁'
    same_whatever_items = record { rows = rows_of (λ t. t.items) (reading e text (lent I S O A)); one = h.leaves.items; other = h₁.leaves.items ∙ ap (padded (length I₁)) (sym alike.items) }

    pub same_whatever_statements : SameRows (length S) (length S₁) S' S₁'
    same_whatever_statements = record { rows = rows_of (λ t. t.statements) (reading e text (lent I S O A)); one = h.leaves.statements; other = h₁.leaves.statements ∙ ap (padded (length S₁)) (sym alike.statements) }

    pub same_whatever_operands : SameRows (length O) (length O₁) O' O₁'
    same_whatever_operands = record { rows = rows_of (λ t. t.operands) (reading e text (lent I S O A)); one = h.leaves.operands; other = h₁.leaves.operands ∙ ap (padded (length O₁)) (sym alike.operands) }

    pub same_whatever_attributes : SameRows (length A) (length A₁) A' A₁'
    same_whatever_attributes = record { rows = rows_of (λ t. t.attributes) (reading e text (lent I S O A)); one = h.leaves.attributes; other = h₁.leaves.attributes ∙ ap (padded (length A₁)) (sym alike.attributes) }

  -- Tables no shorter change nothing, unless the answer is 7.
  pub same_if_longer : {I₁ S₁ O₁ A₁ : List ℕ} {r₁ : Answer} {I₁' S₁' O₁' A₁' : List ℕ} → Reads e text I₁ S₁ O₁ A₁ r₁ I₁' S₁' O₁' A₁' → NoShorter (lent I S O A) (lent I₁ S₁ O₁ A₁) → IsNotSeven r → report_of r ≡ report_of r₁
  same_if_longer {I₁} {S₁} {O₁} {A₁} h₁ n k =
      ap report_of (h.answers ∙ (same_unless_seven e text (lent I S O A) (lent I₁ S₁ O₁ A₁) (longer (lent I S O A) (lent I₁ S₁ O₁ A₁) n.items n.statements n.operands n.attributes) (not_seven h.answers k)).answers ∙ sym h₁.answers)

  -- ---- rows that fit, and rows that do not
  -- the words lent, and no fewer than as many rows need
  abbrev ample : Lent
  ample =
      record {
        items = max (length I) (item_length * length text);
        statements = max (length S) (statement_length * length text);
        operands = max (length O) (operand_length * length text);
        attributes = max (length A) (attribute_length * length text);
      }

  below : Below (room (lent I S O A)) (room ample)
  below = longer (lent I S O A) ample (omega arith) (omega arith) (omega arith) (omega arith)

  ample_many : AsManyRows text ample
  ample_many = record { items = omega arith; statements = omega arith; operands = omega arith; attributes = omega arith }

  module _ (i s o a : ℕ) (q : answer_to e text ≡ read_report i s o a) where
    ample_answer : answer_of (reading e text ample) ≡ answer.Read i s o a
    unfolding answer_to
    ample_answer = sym (same_answer e text (row_for_each_byte text) ample (as_many text) (never_seven e text ample ample_many)).answers ∙ told_read e text (row_for_each_byte text) i s o a q

    -- whatever is lent, the answer is that or 7
    either_answer : IsNotSeven r → r ≡ answer.Read i s o a
    either_answer n = answered e text I S O A h (unless_seven n ∙ q)

    full : RowsFit (lent I S O A) i s o a → (p : ℕ) → reading e text (lent I S O A) ≡ refusal 7 p → (w : Outcome) → reading e text ample ≡ w → answer_of w ≡ answer.Read i s o a → ⊥
    unfolding answer_of
    full f p k (accepted t) g z =
        let i₁ : t.items.count ≡ i = cc in
        let s₁ : t.statements.count ≡ s = cc in
        let o₁ : t.operands.count ≡ o = cc in
        let a₁ : t.attributes.count ≡ a = cc in
        seven_over e text (lent I S O A) ample below p t k g
        (record { items = omega (arith, f.items); statements = omega (arith, f.statements); operands = omega (arith, f.operands); attributes = omega (arith, f.attributes) })
    full f p k (refusal n m) g z = let y : ◌≡◌ {A = ℕ} 0 1 = cc in omega arith

    -- Where the rows of an accepted text fit, the answer is the definition's.
    pub fits-answer : RowsFit (lent I S O A) i s o a → report_of r ≡ read_report i s o a
    fits-answer f = unless_seven (λ p k. full f p (refused_seven (reading e text (lent I S O A)) p (told_seven (reading e text (lent I S O A)) p (ap report_of (sym h.answers) ∙ k))) (reading e text ample) refl ample_answer) ∙ q

    accepted-fit : (w : Outcome) → reading e text (lent I S O A) ≡ w → answer_of w ≡ answer.Read i s o a → RowsFit (lent I S O A) i s o a
    unfolding answer_of
    accepted-fit (accepted t) k z =
        let f = accepted-fits e text (lent I S O A) t k in
        let i₁ : t.items.count ≡ i = cc in
        let s₁ : t.statements.count ≡ s = cc in
        let o₁ : t.operands.count ≡ o = cc in
        let a₁ : t.attributes.count ≡ a = cc in
        record { items = omega (arith, f.items); statements = omega (arith, f.statements); operands = omega (arith, f.operands); attributes = omega (arith, f.attributes) }
    accepted-fit (refusal n m) k z = absurd (let y : ◌≡◌ {A = ℕ} 0 1 = cc in omega arith)

    by_outcome : (RowsFit (lent I S O A) i s o a → ⊥) → (w : Outcome) → reading e text (lent I S O A) ≡ w → (p : ℕ) × (report_of r ≡ refusal_report 7 p)
    unfolding answer_of report_of
    by_outcome over w k = by w k
      where
        fit : IsNotSeven r → ⊥
        fit n = over (accepted-fit w k (sym (ap answer_of k) ∙ sym h.answers ∙ either_answer n))

        by : (v : Outcome) → reading e text (lent I S O A) ≡ v → (p : ℕ) × (report_of r ≡ refusal_report 7 p)
        by (accepted t) g =
            absurd (fit (λ p z.
            let told : report_of (answer_of (accepted t)) ≡ refusal_report 7 p = ap report_of (sym (h.answers ∙ ap answer_of g)) ∙ z in
            let y : ◌≡◌ {A = ℕ} 0 7 = cc in
            omega arith))
        by (refusal n p) g =
            by_cases (eqb n 7)
            (λ seven. (p, ap report_of (h.answers ∙ ap answer_of g) ∙ ap (λ m. refusal_report m p) (eqb-true n 7 seven)))
            (λ other. absurd (fit (λ m z.
            let told : report_of (answer_of (refusal n p)) ≡ refusal_report 7 m = ap report_of (sym (h.answers ∙ ap answer_of g)) ∙ z in
            let y : n ≡ 7 = cc in
            eqb-false n 7 other y)))

    -- Where they do not, it is 7.
    pub over_seven : (RowsFit (lent I S O A) i s o a → ⊥) → (p : ℕ) × (report_of r ≡ refusal_report 7 p)
    over_seven over = by_outcome over (reading e text (lent I S O A)) refl

-- No text claims more rows, of all four tables together, than it has bytes.
pub no_more_rows : (e : Entry) (text : List ℕ) {I S O A : List ℕ} {r : Answer} {I' S' O' A' : List ℕ} → Reads e text I S O A r I' S' O' A' → {i s o a : ℕ} → report_of r ≡ read_report i s o a → i + s + o + a ≤ length text
unfolding answer_of
no_more_rows e text {I} {S} {O} {A} h {i} {s} {o} {a} q = by (reading e text (lent I S O A)) refl (sym (answered e text I S O A h q) ∙ h.answers)
  where
    by : (w : Outcome) → reading e text (lent I S O A) ≡ w → answer.Read i s o a ≡ answer_of w → i + s + o + a ≤ length text
    by (accepted t) k z =
        let n = progress.accepted-within e text (lent I S O A) t k in
        let i₁ : i ≡ t.items.count = cc in
        let s₁ : s ≡ t.statements.count = cc in
        let o₁ : o ≡ t.operands.count = cc in
        let a₁ : a ≡ t.attributes.count = cc in
        omega arith
    by (refusal n m) k z = absurd (let y : ◌≡◌ {A = ℕ} 0 1 = cc in omega arith)
