-- Root attributes by their keyword, and statements by the token that they begin with.
-- Assumes nothing.
use Rattle.std.specs.Prelude.{ℕ, List, cond, eqb}
use Rattle.rules.specs.declared.Spot.{Spot}
use Rattle.rules.specs.Keywords as keyword
use Rattle.rules.specs.Faults as fault
use Rattle.rules.specs.World.{P, refuse}
use Rattle.rules.specs.Tokens as kind
use Rattle.rules.specs.Reading.{keyword_at, flag, demanded_bits, assignment, pc, blockpc}

-- what stands behind '('
unfoldable pub root_attribute_inner : Spot → ℕ → P (Unit {0})
root_attribute_inner t k =
    cond (eqb k keyword.harvested_from_use) (flag k)
    (cond (eqb k keyword.demanded_bits) demanded_bits
    (refuse fault.token t))

-- the statement that begins with a token
unfoldable pub statement_by : List ℕ → Spot → P (Unit {0})
statement_by text t = cond (eqb t.kind kind.val_name) assignment (cond (eqb (keyword_at text t) keyword.pc) pc blockpc)
