-- `tables::rows::operand_at` meets its contract.
-- Assumes nothing.
use mathlib.Core.Path.{◌≡◌, sym, ap}
use Prim.Native.Nat.{ℕ, ◌*◌}
use native.Mathlib.Nat.{add-zero}
use lib.ListN.{get_or}
use Rattle.rules.specs.Rows.{field, operand_length, operand_at}
use Rattle.tables.proofs.rows.operand_at.Goals as goal

pub returns-then-at-count : goal.returns-then-at-count
unfolding operand_at
returns-then-at-count g c =
    let words = g.T.Table.words c.args.operands in
    let i = c.args.i in
    let first : get_or words (i * 7) 0 ≡ field operand_length words i 0 = ap (λ (at : ℕ). get_or words at 0) (sym (add-zero (i * 7))) in
    cc first

pub returns : goal.returns
unfolding operand_at
returns g c = cc (c.field.ensures, c.field-2.ensures, c.field-3.ensures, c.words_at.ensures)
