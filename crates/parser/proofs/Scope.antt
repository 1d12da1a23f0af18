-- The search for a name among the item's statement rows that are counted, and what a rule does with what is found.
-- Assumes nothing.
use Prim.Native.Nat.{ℕ, zero, suc, ◌+◌, ◌*◌, ◌-◌, ◌≤◌, ◌<◌}
use mathlib.Core.Path.{◌≡◌, refl, sym, ◌∙◌}
use mathlib.Core.List.{List}
use native.Mathlib.Omega.{arith}
use borrow.Author.Tests.{eq-eqb, ne_eqb}
use lib.ListN.{take}
use Rattle.std.specs.Prelude.{Option, Some}
use Rattle.rules.specs.declared.Spot.{Spot}
use Rattle.rules.specs.Bytes.{same}
use Rattle.rules.specs.Rows.{statement_length, statement_at, name_at, keyword_code}
use Rattle.rules.specs.Keywords as keyword
use Rattle.rules.specs.Faults as fault
use Rattle.rules.specs.Reading.{letters, find_row, in_scope, block_at}
use Rattle.rules.specs.World.{World, go, stop}
use Rattle.tables.specs.Stands.{table}
use Rattle.laws.proofs.Same.{by_cond}
use Rattle.tables.proofs.Fields.{name-counted, statement-counted}
use Rattle.parser.specs.declared.Parser.{Parser}
use Rattle.parser.specs.Stands.{world}

-- rows among those that are counted
module _ (text words name : List ℕ) (first n : ℕ) where
  search_counted : (k : ℕ) → k ≤ n - first → find_row text (take (n * statement_length) words) name first k ≡ find_row text words name first k
  unfolding find_row
  search_counted zero h = refl
  search_counted (suc k) h = rw (name-counted text words n (first + k) (omega arith), search_counted k (omega arith))

  pub found_within : (k r : ℕ) → k ≤ n - first → find_row text words name first k ≡ Some r → r < n
  unfolding find_row
  found_within zero r h e = let z : ◌≡◌ {A = ℕ} 0 1 = cc in omega arith
  found_within (suc k) r h e =
      by_cond (λ (row : Option ℕ). row ≡ Some r → r < n) (same (name_at text words (first + k)) name) (Some (first + k)) (find_row text words name first k)
      (λ _ f. let here : first + k ≡ r = cc in omega arith)
      (λ _. found_within k r (omega arith))
      e

-- a search through the rows of a scope that are counted
pub searched : (w : World) (text words : List ℕ) (first past : ℕ) (t : Spot) {name : List ℕ} {r : Option ℕ} → w.text ≡ text → w.scope ≡ first → w.tables.statements ≡ table statement_length past words → r ≡ find_row text words name first (past - first) → name ≡ letters text t → r ≡ in_scope t w
unfolding in_scope
searched w text words first past t i j k e l = rw (i, j, k, e, l) (sym (search_counted text words (letters text t) first past (past - first) (omega arith)))

module _ (p : Parser) where
  -- a row that is found in scope is counted, so its code is that of the lent table's row
  module _ (t : Spot) {r code : ℕ} {row : Option ℕ} (e : row ≡ in_scope t (world p)) (l : row ≡ Some r) (k : code ≡ (statement_at p.statements.now r).code) where
    scope_code : (statement_at (world p).tables.statements.words r).code ≡ code
    unfolding in_scope world
    scope_code =
        let n = p.counts.statements in
        let text = p.text.bytes.now in
        let low : r < n = found_within text _ (letters text t) p.scope n (n - p.scope) r (omega arith) (sym e ∙ l) in
        rw (k, statement-counted p.statements.now n r low)

    pub is_block_lem : code ≡ keyword_code keyword.block → block_at (Some r) t (world p) ≡ go r (world p)
    unfolding block_at
    is_block_lem h = rw (scope_code, eq-eqb _ _ h)

    pub no_block_lem : (code ≡ keyword_code keyword.block → ⊥) → block_at (Some r) t (world p) ≡ stop fault.no_block t
    unfolding block_at
    no_block_lem h = rw (scope_code, ne_eqb _ _ h)
