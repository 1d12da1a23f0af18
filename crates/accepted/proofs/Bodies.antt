-- Many statements: all of them are well formed, and the spans of what they own are consecutive.
-- Assumes nothing.
use Prim.Native.Nat.{ℕ, zero, suc, ◌+◌, ◌-◌, ◌≤◌}
use mathlib.Core.Path.{◌≡◌, refl, sym, ◌∙◌, subst}
use mathlib.Core.Bool.{true}
use mathlib.Core.List.{List, ◌∷◌}
use native.Mathlib.Omega.{arith}
use borrow.Author.Tests.{eqb-true, eqb-false}
use lib.Dec.{eqb}
use lib.ListN.{length}
use Rattle.rules.specs.declared.Span.{Span}
use Rattle.rules.specs.Rows.{◌up_to◌, statement_at}
use Rattle.rules.specs.View.{each}
use Rattle.rules.specs.WellFormed.{consecutive}
use Rattle.rules.specs.World.{Stand, Tables, asks, repeated, many}
use Rattle.rules.specs.Reading as R
use Rattle.laws.proofs.Cases.{by_cases}
use Rattle.wellformed.proofs.Along.{each_more}
use Rattle.simulation.proofs.Tokens.{world}
use Rattle.simulation.proofs.Stable.{Later, later_same, later_than}
use Rattle.accepted.proofs.Going.{Any, Sits, Reads, reads, read_then, Goes, goes, stops, after, then, either, weaker, look_reads}
use Rattle.accepted.proofs.Scope.{Fine, Rows, fine_later}
use Rattle.accepted.proofs.Operands.{Holds}
use Rattle.accepted.proofs.Spans.{first-span, no_rows}
use Rattle.accepted.proofs.Statements.{Entered, statement_goes}

abbrev pub operands_of : Tables → ℕ → Span
operands_of v i = (statement_at v.statements.words i).operands

abbrev pub attributes_of : Tables → ℕ → Span
attributes_of v i = (statement_at v.statements.words i).attributes

pub record Stated (text : List ℕ) (f : ℕ) (t u : Tables) : Type 0 where
  pub later : Later t u
  pub holds : Holds u
  pub items : u.items.count ≡ t.items.count
  pub rows : Rows text f u
  pub operands : (v : Tables) → Later u v → consecutive t.operands.count u.operands.count (each (operands_of v) t.statements.count (u.statements.count - t.statements.count)) ≡ true
  pub attributes : (v : Tables) → Later u v → consecutive t.attributes.count u.attributes.count (each (attributes_of v) t.statements.count (u.statements.count - t.statements.count)) ≡ true

none_stated : {text : List ℕ} {f : ℕ} {t : Tables} → Holds t → Rows text f t → Stated text f t t
none_stated {t = t} h r =
    let c = t.statements.count in
    record {
      later = later_same t;
      holds = h;
      items = refl;
      rows = r;
      operands = λ v l. no_rows (operands_of v) t.operands.count c c refl;
      attributes = λ v l. no_rows (attributes_of v) t.attributes.count c c refl;
    }

entered_rows : {text : List ℕ} {f : ℕ} {t u : Tables} → Rows text f t → Entered text f t u → Rows text f u
entered_rows {text} {f} {t} {u} r e =
    let c = e.statements in
    let low = r.low in
    record {
      low = omega arith;
      row =
          λ i h k.
          by_cases (eqb t.statements.count i)
          (λ q. subst (λ (j : ℕ). Fine text f u j) (eqb-true _ _ q) e.fine)
          (λ q. let n : t.statements.count ≡ i → ⊥ = eqb-false t.statements.count i q in fine_later e.later (r.row i h (omega arith)));
    }

-- a statement's spans before those of others
pub first_row : (F : ℕ → Span) (c c₁ past a b d : ℕ) → c₁ ≡ c + 1 → c₁ ≤ past → F c ≡ a up_to b → a ≤ b → consecutive b d (each F c₁ (past - c₁)) ≡ true → consecutive a d (each F c (past - c)) ≡ true
first_row F c c₁ past a b d e h s k r =
    let more : each F c (past - c) ≡ F c ∷ each F (c + 1) (past - (c + 1)) = each_more F c past (omega arith) in
    let rest : consecutive b d (each F (c + 1) (past - (c + 1))) ≡ true = subst (λ (i : ℕ). consecutive b d (each F i (past - i)) ≡ true) e r in
    subst (λ (l : List Span). consecutive a d l ≡ true) (sym more) (first-span a b d (F c) (each F (c + 1) (past - (c + 1))) s k rest)

more_stated : {text : List ℕ} {f : ℕ} {t u v : Tables} → Entered text f t u → Stated text f u v → Stated text f t v
more_stated {text} {f} {t} {u} {v} e s =
    record {
      later = later_than e.later s.later;
      holds = s.holds;
      items = s.items ∙ e.items;
      rows = s.rows;
      operands =
          λ w l.
          first_row (operands_of w) t.statements.count u.statements.count v.statements.count t.operands.count u.operands.count v.operands.count e.statements s.later.statements
          (e.operands w (later_than s.later l)) e.later.operands (s.operands w l);
      attributes =
          λ w l.
          first_row (attributes_of w) t.statements.count u.statements.count v.statements.count t.attributes.count u.attributes.count v.attributes.count e.statements s.later.statements
          (e.attributes w (later_than s.later l)) e.later.attributes (s.attributes w l);
    }

module _ {text : List ℕ} {f : ℕ} (short : length text ≤ 65536) where
  ahead-reads : (t : Tables) (s : Stand) → Sits text s → Reads text f t Any (R.statement_ahead (world text f s t))
  unfolding R.statement_ahead asks
  ahead-reads t s z = read_then _ (look_reads t s z) (λ x v y q. reads _ v y tt)

  turns : (n : ℕ) (t : Tables) → Holds t → Rows text f t → (s : Stand) → Sits text s → Goes text f (λ x u. Stated text f t u) (repeated n R.statement_ahead R.statement (world text f s t))
  unfolding repeated
  turns zero t hd rs s z = stops _ _
  turns (suc n) t hd rs s z =
      after _ (ahead-reads t s z) (λ more v y q.
      either more _ _ (world text f v t)
      (λ e. then _ (statement_goes short t hd rs v y) (λ x v₁ u y₁ a. weaker (turns n u a.holds (entered_rows rs a) v₁ y₁) (λ x₁ u₁ b. more_stated a b)))
      (λ e. goes tt v t y (none_stated hd rs)))

  pub statements_goes : (t : Tables) → Holds t → Rows text f t → (s : Stand) → Sits text s → Goes text f (λ x u. Stated text f t u) (R.statements (world text f s t))
  unfolding R.statements many
  statements_goes t hd rs s z = turns (suc t.statements.cap) t hd rs s z
