-- Rows printed from roots: none, one after the other, and those that operand rows name.
-- Assumes nothing.
use mathlib.Core.Path.{◌≡◌, refl, sym, ap, ◌∙◌, subst}
use mathlib.Core.Bool.{Bool, true, false, cond}
use mathlib.Core.List.{List, [], ◌∷◌, ◌++◌, append-nil}
use Prim.Native.Nat.{ℕ, suc, ◌+◌, ◌<◌, ◌^◌}
use native.Mathlib.Numerals.{add-one}
use borrow.Author.Tests.{ne_eqb}
use lib.Dec.{eqb}
use Rattle.rules.specs.declared.Operand.{Operand}
use Rattle.rules.specs.Rows.{operand_at, value_code}
use Rattle.rules.specs.Meaning.{All}
use Rattle.laws.proofs.Members.{all_left, all_right}
use Rattle.listing.specs.Listing.{Marks, marked}
use Rattle.listing.specs.References.{named}
use Rattle.listing.specs.Work.{marks_of}
use Rattle.listing.proofs.Marking.{marked_append}
use Rattle.output.specs.declared.writer.Writer.{Writer}
use Rattle.output.proofs.Words.{first, next, last, writes_none}
use Rattle.pieces.specs.declared.Source.{Source}
use Rattle.printer.specs.Rows.{reached, lines_of}
use Rattle.printer.specs.Contract.{PreparedFor, reached_in, lines_in, RowsPrinted}
use Rattle.printer.proofs.Reaching.{reached-append}
use Rattle.printer.proofs.Texts.{lines_of-append}

-- the rows that operand rows name
module _ (O : List ℕ) (i : ℕ) {r : Operand} (e : r ≡ operand_at O i) where
  pub named_value : r.code ≡ value_code → named O i 1 ≡ r.row ∷ []
  named_value h = rw (← e, h)

  pub named-constant : (r.code ≡ value_code → ⊥) → named O i 1 ≡ []
  named-constant h = rw (← e, ne_eqb _ _ h)

pub named_both : (O : List ℕ) (i : ℕ) → named O i 2 ≡ named O i 1 ++ named O (i + 1) 1
named_both O i = at (eqb (operand_at O i).code value_code) ∙ ap (λ (k : ℕ). named O i 1 ++ named O k 1) (sym (add-one i))
  where
    at : (t : Bool) → cond t ((operand_at O i).row ∷ named O (suc i) 1) (named O (suc i) 1) ≡ cond t ((operand_at O i).row ∷ []) [] ++ named O (suc i) 1
    at true = refl
    at false = refl

module _ (x : Source) (s : ℕ) where
  -- no roots
  pub rows_none : {w : List ℕ} (o : Writer) → PreparedFor x s w → RowsPrinted x s [] w o w o
  unfolding reached lines_of
  rows_none o p = record { wrote = writes_none o; marks = refl; prepared = p }

  -- roots said otherwise
  pub rows_as : {xs ys w w' : List ℕ} {b a : Writer} → ys ≡ xs → RowsPrinted x s xs w b w' a → RowsPrinted x s ys w b w' a
  rows_as {w = w} {w'} {b} {a} e h = subst (λ (l : List ℕ). RowsPrinted x s l w b w' a) (sym e) h

  -- one after the other
  pub rows_both : (xs ys : List ℕ) {w w₁ w₂ : List ℕ} {b c a : Writer} → PreparedFor x s w → RowsPrinted x s xs w b w₁ c → RowsPrinted x s ys w₁ c w₂ a → RowsPrinted x s (xs ++ ys) w b w₂ a
  rows_both xs ys {w} {w₁} p h g =
      record {
        wrote =
            last (next (first (ap (lines_in x) both_rows ∙ lines_of-append x.text.now x.statements.now x.operands.now x.attributes.now ls rs ∙ ap (λ (l : List ℕ). lines_in x ls ++ l) (sym (append-nil (lines_in x rs)))) h.wrote) g.wrote);
        marks = g.marks ∙ ap (λ (m : Marks). marked m rs) h.marks ∙ sym (marked_append ls rs (marks_of w s)) ∙ ap (marked (marks_of w s)) (sym both_rows);
        prepared = g.prepared;
      }
    where
      ls : List ℕ
      ls = reached_in x s w xs

      rs : List ℕ
      rs = reached_in x s w₁ ys

      both_rows : reached_in x s w (xs ++ ys) ≡ ls ++ rs
      both_rows =
          reached-append x.statements.now x.operands.now s p.sound (marks_of w s) xs ys
          ∙ ap (λ (m : Marks). ls ++ reached x.statements.now x.operands.now s m ys) (sym h.marks)

-- roots among the counted rows
pub value_low : (O : List ℕ) (i s : ℕ) {r : Operand} → r ≡ operand_at O i → r.code ≡ value_code → All (λ j. j < s) (named O i 1) → r.row < s
value_low O i s e h a = (subst (All (λ j. j < s)) (named_value O i e h) a).0

pub both_low : (O : List ℕ) (i s : ℕ) → All (λ j. j < s) (named O i 2) → All (λ j. j < s) (named O i 1 ++ named O (i + 1) 1)
both_low O i s a = subst (All (λ j. j < s)) (named_both O i) a

pub first-low : (O : List ℕ) (i s : ℕ) → All (λ j. j < s) (named O i 2) → All (λ j. j < s) (named O i 1)
first-low O i s a = all_left (λ j. j < s) (named O i 1) (named O (i + 1) 1) (both_low O i s a)

pub second-low : (O : List ℕ) (i s : ℕ) → All (λ j. j < s) (named O i 2) → All (λ j. j < s) (named O (i + 1) 1)
second-low O i s a = all_right (λ j. j < s) (named O i 1) (named O (i + 1) 1) (both_low O i s a)
