-- The statements of the item that is being read: each is well formed in all later tables, and a name that is found among them is an assignment's.
-- Assumes nothing.
use Prim.Native.Nat.{ℕ, zero, suc, ◌+◌, ◌-◌, ◌≤◌, ◌<◌}
use mathlib.Core.Path.{◌≡◌, refl, sym, ap, ◌∙◌, subst}
use mathlib.Core.Bool.{Bool, true, false, cond}
use mathlib.Core.List.{List, []}
use native.Mathlib.Omega.{arith}
use borrow.Author.Tests.{le-leb, lt-ltb, eqb-true, eqb-false}
use lib.Dec.{eqb}
use lib.ListN.{length}
use Rattle.rules.specs.declared.Spot.{Spot}
use Rattle.std.specs.Prelude.{Option, Some, None}
use Rattle.rules.specs.Bytes.{same}
use Rattle.rules.specs.Faults as fault
use Rattle.rules.specs.Keywords as keyword
use Rattle.rules.specs.Tokens as kind
use Rattle.rules.specs.Rows.{statement_at, name_at, keyword_code}
use Rattle.rules.specs.WellFormed.{is_assignment, among, refers_to, refers_to_block, statement_ok}
use Rattle.rules.specs.World.{Stand, Tables, go, stop, asks, ◌>>=◌, give}
use Rattle.rules.specs.Reading as R
use Rattle.rules.specs.Reading.{letters, find_row}
use Rattle.laws.proofs.Cases.{by_cases}
use Rattle.laws.proofs.Same.{same_true}
use Rattle.simulation.proofs.Tokens.{world}
use Rattle.simulation.proofs.Stable.{Later, later_than, name_stays}
use Rattle.accepted.proofs.Padding.{and_both}
use Rattle.accepted.proofs.Going.{Word, Sits, Reads, reads, refuses, read_then, expect-reads}

-- row i is a well-formed statement of the item that begins at row f; without a name where it is no assignment
pub record Fine (text : List ℕ) (f : ℕ) (t : Tables) (i : ℕ) : Type 0 where
  pub there : i < t.statements.count
  pub ok : (u : Tables) → Later t u → statement_ok text u.statements.words u.operands.words u.attributes.words f i (statement_at u.statements.words i) ≡ true
  pub unnamed : is_assignment (statement_at t.statements.words i).code ≡ false → name_at text t.statements.words i ≡ []

pub record Rows (text : List ℕ) (f : ℕ) (t : Tables) : Type 0 where
  pub low : f ≤ t.statements.count
  pub row : (i : ℕ) → f ≤ i → i < t.statements.count → Fine text f t i

pub fine_later : {text : List ℕ} {f : ℕ} {t u : Tables} {i : ℕ} → Later t u → Fine text f t i → Fine text f u i
fine_later {text} {f} {t} {u} {i} l h =
    let same_row = l.statement i h.there in
    record {
      there = omega (arith, l.statements, h.there);
      ok = λ v k. h.ok v (later_than l k);
      unnamed = λ e. name_stays text l i h.there ∙ h.unnamed (rw same_row at e);
    }

pub rows_later : {text : List ℕ} {f : ℕ} {t u : Tables} → Later t u → u.statements.count ≡ t.statements.count → Rows text f t → Rows text f u
rows_later l e r = record { low = omega (arith, r.low); row = λ i h k. fine_later l (r.row i h (omega arith)) }

-- what a search among k rows from one on finds
abbrev Searched : List ℕ → List ℕ → List ℕ → ℕ → ℕ → Option ℕ → Type 0
Searched text S name first k (Some r) = (first ≤ r) × ((r < first + k) × (name_at text S r ≡ name))
Searched text S name first k None = (i : ℕ) → first ≤ i → i < first + k → same (name_at text S i) name ≡ false

searched : (text S name : List ℕ) (first k : ℕ) → Searched text S name first k (find_row text S name first k)
unfolding find_row
searched text S name first zero = λ i h l. absurd (let z : ⊥ = omega arith in z)
searched text S name first (suc k) = by (same (name_at text S (first + k)) name) refl (find_row text S name first k) (searched text S name first k)
  where
    by : (b : Bool) → same (name_at text S (first + k)) name ≡ b → (row : Option ℕ) → Searched text S name first k row → Searched text S name first (suc k) (cond b (Some (first + k)) row)
    by true e row h = (omega arith, (omega arith, same_true _ _ e))
    by false e (Some r) h = (h.0, (omega arith, h.1.1))
    by false e None h =
        λ i l m.
        by_cases (eqb i (first + k))
        (λ q. subst (λ (j : ℕ). same (name_at text S j) name ≡ false) (sym (eqb-true _ _ q)) e)
        (λ q. let n : i ≡ first + k → ⊥ = eqb-false i (first + k) q in h i l (omega arith))

module _ {text : List ℕ} {f : ℕ} (t : Tables) (rs : Rows text f t) where
  abbrev S : List ℕ
  S = t.statements.words

  scoped : (x : Spot) (s : Stand) → Searched text S (letters text x) f (t.statements.count - f) (R.in_scope x (world text f s t))
  unfolding R.in_scope
  scoped x s = searched text S (letters text x) f (t.statements.count - f)

  -- a row that a value can refer to
  pub record Value (r : ℕ) : Type 0 where
    pub low : f ≤ r
    pub there : r < t.statements.count
    pub refers : (u : Tables) → Later t u → refers_to u.statements.words f t.statements.count r ≡ true

  assigned : (x : Spot) → Word text x → x.kind ≡ kind.val_name → (r : ℕ) → f ≤ r → r < t.statements.count → name_at text S r ≡ letters text x → is_assignment (statement_at S r).code ≡ true
  assigned x w k r h l e =
      by_cases (is_assignment (statement_at S r).code)
      (λ q. q)
      (λ q.
      let n = w.told.named k in
      let z : letters text x ≡ [] = sym e ∙ (rs.row r h l).unnamed q in
      let c : 0 ≡ suc (suc (length n.rest)) = ap length (sym z ∙ n.spelt) in
      absurd (let a : ⊥ = omega arith in a))

  found-value : (x : Spot) → Word text x → x.kind ≡ kind.val_name → (r : ℕ) → f ≤ r → r < t.statements.count → name_at text S r ≡ letters text x → Value r
  unfolding refers_to among
  found-value x w k r h l e =
      let a = assigned x w k r h l e in
      record {
        low = h;
        there = l;
        refers = λ u q. let c = q.statement r l in rw c (and_both (and_both (le-leb f r h) (lt-ltb r t.statements.count l)) a);
      }

  pub value-reads : (s : Stand) → Sits text s → Reads text f t Value (R.value (world text f s t))
  unfolding R.value asks R.known
  value-reads s z = read_then _ (expect-reads t kind.val_name s z) (λ x v y q. by x v y q (R.in_scope x (world text f v t)) (scoped x v))
    where
      by : (x : Spot) (v : Stand) → Sits text v → Word text x × (x.kind ≡ kind.val_name) → (row : Option ℕ) → Searched text S (letters text x) f (t.statements.count - f) row → Reads text f t Value (R.known row x (world text f v t))
      by x v y q (Some r) h = let low = rs.low in reads r v y (found-value x q.0 q.1 r h.0 (omega (arith, h.1.0)) h.1.1)
      by x v y q None h = refuses _ _

  -- a name that no row has
  pub record New (x : Spot) : Type 0 where
    pub word : Word text x
    pub kind : x.kind ≡ kind.val_name
    pub new : (i : ℕ) → f ≤ i → i < t.statements.count → same (name_at text S i) (letters text x) ≡ false

  pub name-reads : (s : Stand) → Sits text s → Reads text f t New (R.new_name (world text f s t))
  unfolding R.new_name asks R.fresh
  name-reads s z = read_then _ (expect-reads t kind.val_name s z) (λ x v y q. by x v y q (R.in_scope x (world text f v t)) (scoped x v))
    where
      by : (x : Spot) (v : Stand) → Sits text v → Word text x × (x.kind ≡ kind.val_name) → (row : Option ℕ) → Searched text S (letters text x) f (t.statements.count - f) row → Reads text f t New ((R.fresh row x >>= λ u. give x) (world text f v t))
      by x v y q (Some r) h = refuses _ _
      by x v y q None h = reads x v y (record { word = q.0; kind = q.1; new = λ i a b. h i a (omega arith) })

  -- a row that is a block's
  pub record Block (r : ℕ) : Type 0 where
    pub low : f ≤ r
    pub there : r < t.statements.count
    pub refers : (u : Tables) → Later t u → refers_to_block u.statements.words f t.statements.count r ≡ true

  pub block_reads : (s : Stand) → Sits text s → Reads text f t Block (R.block (world text f s t))
  unfolding R.block asks R.block_at refers_to_block among
  block_reads s z = read_then _ (expect-reads t kind.val_name s z) (λ x v y q. by x v y (R.in_scope x (world text f v t)) (scoped x v))
    where
      by : (x : Spot) (v : Stand) → Sits text v → (row : Option ℕ) → Searched text S (letters text x) f (t.statements.count - f) row → Reads text f t Block (R.block_at row x (world text f v t))
      by x v y (Some r) h = is (eqb (statement_at S r).code (keyword_code keyword.block)) refl
        where
          is : (b : Bool) → eqb (statement_at S r).code (keyword_code keyword.block) ≡ b → Reads text f t Block (cond b (go r (world text f v t)) (stop fault.no_block x))
          is true e =
              let low = rs.low in
              let l : r < t.statements.count = omega (arith, h.1.0) in
              reads r v y
              (record {
                low = h.0;
                there = l;
                refers = λ u q. let c = q.statement r l in rw c (and_both (and_both (le-leb f r h.0) (lt-ltb r t.statements.count l)) e);
              })
          is false e = refuses _ _
      by x v y None h = refuses _ _
