-- The row of a block that was named is one of those counted.
-- Assumes nothing.
use Prim.Native.Nat.{ℕ, ◌<◌}
use mathlib.Core.Path.{◌≡◌, refl, sym}
use native.Mathlib.Omega.{arith}
use lib.Dec.{eqb}
use Rattle.std.specs.Prelude.{Option, Some, None, Ok}
use Rattle.rules.specs.declared.Spot.{Spot}
use Rattle.rules.specs.Rows.{statement_at, keyword_code}
use Rattle.rules.specs.Tokens as kind
use Rattle.rules.specs.Keywords as keyword
use Rattle.rules.specs.Faults as fault
use Rattle.rules.specs.World.{World, Res, go, stop, P, bind, asks}
use Rattle.rules.specs.Reading as R
use Rattle.laws.proofs.Same.{by_cond}
use Rattle.tables.proofs.Fields.{statement-counted}
use Rattle.parser.specs.declared.Parser.{Parser}
use Rattle.parser.specs.Stands.{Runs, world}
use Rattle.parser.proofs.Scope.{found_within}
use Rattle.parser.proofs.Steps.{steps}

-- where one rule after another goes on, the first went on
pub record Went {A B : Type 0} (m : Res A) (f : A → P B) (b : B) (v : World) : Type 0 where
  pub value : A
  pub world : World
  pub first : m ≡ go value world
  pub second : f value world ≡ go b v

went : {A B : Type 0} (m : Res A) (f : A → P B) (b : B) (v : World) → bind m f ≡ go b v → Went m f b v
went (go a w) f b v e = record { value = a; world = w; first = refl; second = e }
went (stop n t) f b v e = let z : ◌≡◌ {A = ℕ} 0 1 = cc in absurd (omega arith)

found : (t : Spot) (w : World) (r : ℕ) → R.in_scope t w ≡ Some r → r < w.tables.statements.count
unfolding R.in_scope
found t w r e = found_within w.text w.tables.statements.words (R.letters w.text t) w.scope w.tables.statements.count _ r (omega arith) e

at_block : (t : Spot) (w : World) (row : Option ℕ) (r : ℕ) (v : World) → R.in_scope t w ≡ row → R.block_at row t w ≡ go r v → r < v.tables.statements.count
unfolding R.block_at
at_block t w (Some i) r v e h =
    by_cond (λ (m : Res ℕ). m ≡ go r v → r < v.tables.statements.count) (eqb (statement_at w.tables.statements.words i).code (keyword_code keyword.block)) (go i w) (stop fault.no_block t)
    (λ _ g. let same_row : i ≡ r = cc in let same-world : w ≡ v = cc in rw (← same_row, ← same-world) (found t w i e))
    (λ _ g. let z : ◌≡◌ {A = ℕ} 0 1 = cc in absurd (omega arith))
    h
at_block t w None r v e h = let z : ◌≡◌ {A = ℕ} 0 1 = cc in absurd (omega arith)

pub block-counted : (w : World) (r : ℕ) (v : World) → R.block w ≡ go r v → r < v.tables.statements.count
unfolding R.block asks
block-counted w r v e =
    let x = went (R.expect kind.val_name w) (λ t u. R.block_at (R.in_scope t u) t u) r v e in
    at_block x.value x.world (R.in_scope x.value x.world) r v refl x.second

-- so the number that is seen is that of the lent table's row
pub number-seen : (p q : Parser) (r : ℕ) → Runs R.block p (Ok r) q → (statement_at q.statements.now r).number ≡ (statement_at (world q).tables.statements.words r).number
unfolding world
number-seen p q r x =
    let low : r < q.counts.statements = block-counted (world p) r (world q) (sym x.tells) in
    sym (rw (statement-counted q.statements.now q.counts.statements r low))

-- what the goals of a phi's right side take
pub ruleset phi_steps = (steps, number-seen)
