-- `tables::rows::statement_at` meets its contract.
-- Assumes nothing.
use mathlib.Core.Path.{◌≡◌, sym, ap}
use Prim.Native.Nat.{ℕ, ◌*◌}
use native.Mathlib.Nat.{add-zero}
use lib.ListN.{get_or}
use Rattle.rules.specs.Rows.{field, statement_length, statement_at}
use Rattle.tables.proofs.rows.statement_at.Goals as goal

pub returns-then-at-count : goal.returns-then-at-count
unfolding statement_at
returns-then-at-count g c =
    let words = g.T.Table.words c.args.statements in
    let i = c.args.i in
    let first : get_or words (i * 10) 0 ≡ field statement_length words i 0 = ap (λ (at : ℕ). get_or words at 0) (sym (add-zero (i * 10))) in
    cc first

pub returns : goal.returns
unfolding statement_at
returns g c = cc (c.field.ensures, c.field-2.ensures, c.field-3.ensures, c.field-4.ensures)
