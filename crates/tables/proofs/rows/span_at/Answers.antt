-- `tables::rows::span_at` meets its contract. Past the table every word is 0.
-- Assumes nothing.
use mathlib.Core.Path.{◌≡◌, ap}
use Prim.Native.Nat.{ℕ, ◌+◌, ◌*◌}
use native.Mathlib.Nat.{add_assoc}
use native.Mathlib.Omega.{arith}
use lib.ListN.{get_or, get_or-eq_default}
use borrow.Author.Rules.{rules}
use Rattle.rules.specs.Rows.{field}
use Rattle.tables.proofs.Fields.{row_fits}
use Rattle.tables.proofs.rows.span_at.Goals as goal

pub overflow_mul-at : goal.overflow_mul-at
overflow_mul-at g c = omega (arith, row_fits c.args.i c.args.length (search rules) c.requires.0)

pub overflow_add-at : goal.overflow_add-at
overflow_add-at g c = omega (arith, row_fits c.args.i c.args.length (search rules) c.requires.0)

pub overflow_add-at-2 : goal.overflow_add-at-2
overflow_add-at-2 g c = omega (arith, row_fits c.args.i c.args.length (search rules) c.requires.0)

pub returns-then-at-count : goal.returns-then-at-count
returns-then-at-count g c =
    let a = c.args in
    let words = g.T.Table.words a.table in
    let next : get_or words (a.i * a.length + a.j + 1) 0 ≡ field a.length words a.i (a.j + 1) = ap (λ (at : ℕ). get_or words at 0) (add_assoc (a.i * a.length) a.j 1) in
    cc next

pub returns : goal.returns
returns g c =
    let a = c.args in
    let words = g.T.Table.words a.table in
    let none : field a.length words a.i (a.j + 1) ≡ 0 = get_or-eq_default words 0 {n = a.i * a.length + (a.j + 1)} (omega arith) in
    cc (c.word_at.ensures, none)
