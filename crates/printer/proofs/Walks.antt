-- A walk along a listing that writes a line for each row.
-- Assumes nothing.
use mathlib.Core.Path.{◌≡◌, refl, sym, ap, ◌∙◌, subst}
use mathlib.Core.List.{List, [], ◌∷◌, map}
use Prim.Native.Nat.{ℕ, ◌<◌}
use native.Mathlib.Omega.{arith}
use lib.ListN.{length}
use Rattle.std.specs.Prelude.{Option, Some, None}
use Rattle.rules.specs.Printing.{line}
use Rattle.listing.specs.Machine.{Run, lists}
use Rattle.listing.specs.Work.{marks_of, to_come, Ready, Begun, Listed, Ended, Advanced}
use Rattle.output.specs.declared.writer.Writer.{Writer}
use Rattle.output.specs.Writing.{Writes}
use Rattle.output.proofs.Words.{Through, begins, next, last, writes_as, left_as}
use Rattle.pieces.specs.declared.Source.{Source}
use Rattle.lines.specs.Sources.{statement_in}
use Rattle.printer.specs.Rows.{reached}
use Rattle.printer.specs.Contract.{Prepared, PreparedFor, reached_in, lines_in, RowsPrinted}
use Rattle.printer.proofs.Texts.{lines_of-joined}

-- what is to come of a source
abbrev pub coming : Source → ℕ → List ℕ → ℕ → Run
coming x s w t = to_come x.statements.now x.operands.now s w t

-- the lines of what is to come where the walk began are written, up to those of what is still to come
pub record Walking (x : Source) (s : ℕ) (w₀ : List ℕ) (t₀ : ℕ) (o₀ : Writer) (w : List ℕ) (t : ℕ) (o : Writer) : Type 0 where
  pub ready : Ready x.statements.now x.operands.now s w t
  pub through : Through (lines_in x (coming x s w₀ t₀).listed) (map (λ i. line (statement_in x i) []) (coming x s w t).listed) o₀ o
  pub marks : (coming x s w t).marks ≡ (coming x s w₀ t₀).marks
  pub long : length w ≡ length w₀

module _ (x : Source) (s : ℕ) {w : List ℕ} (p : PreparedFor x s w) (root : ℕ) {w₀ : List ℕ} {t₀ : ℕ} (g : Begun x.statements.now x.operands.now s w root w₀ t₀) where
  -- what is to come where the walk begins
  begun-run : coming x s w₀ t₀ ≡ lists (marks_of w s) (reached_in x s w (root ∷ []))
  unfolding reached
  begun-run = g.whole

  begun-listed : (coming x s w₀ t₀).listed ≡ reached_in x s w (root ∷ [])
  begun-listed = ap (λ (r : Run). r.listed) begun-run

  pub walking_start : (o : Writer) → Walking x s w₀ t₀ o w₀ t₀ o
  walking_start o =
      record { ready = g.ready; through = begins o (lines_of-joined x.text.now x.statements.now x.operands.now x.attributes.now (coming x s w₀ t₀).listed); marks = refl; long = refl }

  pub walking_done : {o₀ o : Writer} {w₁ w' : List ℕ} {t : ℕ} → Walking x s w₀ t₀ o₀ w₁ t o → Ended x.statements.now x.operands.now s w₁ t w' → RowsPrinted x s (root ∷ []) w o₀ w' o
  walking_done v e =
      record {
        wrote = writes_as (ap (lines_in x) (sym begun-listed)) (last (left_as (ap (λ (r : Run). map (λ i. line (statement_in x i) []) r.listed) e.nothing) v.through));
        marks = sym (ap (λ (r : Run). r.marks) e.nothing) ∙ v.marks ∙ ap (λ (r : Run). r.marks) begun-run;
        prepared = record { short = p.short; operands = p.operands; attributes = p.attributes; sound = p.sound; ready = e.ready };
      }

-- the next row
module _ {x : Source} {s : ℕ} {w₀ : List ℕ} {t₀ : ℕ} {o₀ : Writer} {w : List ℕ} {t : ℕ} {o : Writer} (g : Walking x s w₀ t₀ o₀ w t o) {w' : List ℕ} {row t' : ℕ} (h : Listed x.statements.now x.operands.now s w t w' row t') where
  pub walking_more : {o' : Writer} → length w' ≡ length w → Writes (line (statement_in x row) []) o o' → Walking x s w₀ t₀ o₀ w' t' o'
  walking_more e q =
      record {
        ready = h.ready;
        through = next (left_as (ap (λ (r : Run). map (λ i. line (statement_in x i) []) r.listed) h.next) g.through) q;
        marks = sym (ap (λ (r : Run). r.marks) h.next) ∙ g.marks;
        long = e ∙ g.long;
      }

  pub walking_less : length (coming x s w' t').listed < length (coming x s w t).listed
  walking_less = omega (arith, ap (λ (r : Run). length r.listed) h.next)

-- the walk had a next row, or none
pub listed : {S O : List ℕ} {s : ℕ} {w : List ℕ} {t : ℕ} {w' : List ℕ} {r : Option ℕ} {row t' : ℕ} → r ≡ Some row → Advanced S O s w t w' r t' → Listed S O s w t w' row t'
listed {S} {O} {s} {w} {t} {w'} {t' = t'} e a = subst (λ (r : Option ℕ). Advanced S O s w t w' r t') e a

pub ended : {S O : List ℕ} {s : ℕ} {w : List ℕ} {t : ℕ} {w' : List ℕ} {r : Option ℕ} (t' : ℕ) → r ≡ None → Advanced S O s w t w' r t' → Ended S O s w t w'
ended {S} {O} {s} {w} {t} {w'} t' e a = subst (λ (r : Option ℕ). Advanced S O s w t w' r t') e a

-- the work area has room for a stack
pub begin_room : {text S O : List ℕ} {s : ℕ} {w : List ℕ} → Prepared text S O s w → s < length w
begin_room p = omega (arith, p.ready.room)
