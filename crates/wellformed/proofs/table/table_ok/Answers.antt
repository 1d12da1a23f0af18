-- `table_ok` meets its contract.
-- Assumes nothing.
use Prim.Native.Nat.{◌*◌}
use mathlib.Core.Path.{ap, ◌∙◌}
use native.Mathlib.Omega.{arith}
use lib.ListN.{length}
use borrow.Author.Tests.{le-leb}
use Rattle.laws.proofs.Runs.{rest}
use Rattle.rules.specs.WellFormed.{only, is_zero, table_ok, rest_unused, count_fits}
use Rattle.rules.specs.Rows.{capacity}
use Rattle.wellformed.proofs.Counted.{words-fit}
use Rattle.wellformed.proofs.Clauses.{goes}
use Rattle.wellformed.proofs.table.table_ok.Goals as goal

pub returns : goal.returns
unfolding table_ok rest_unused count_fits
returns c =
    goes _ _ (le-leb c.args.rows (capacity c.args.length (length c.args.table.now)) (omega arith))
    (goes _ _ (words-fit c.args.table.now (λ k. omega (arith, c.type_inv.table k)))
    (c.unused.ensures ∙ ap (only is_zero) (rest c.args.table.now (c.args.rows * c.args.length))))
