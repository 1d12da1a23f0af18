-- `statements_in` meets its contract. The loop's invariant: the rows passed have passed the test, so the others decide; and the slots of their names
-- have marks.
-- Assumes nothing.
use mathlib.Core.Path.{◌≡◌}
use lib.ListN.{length}
use Rattle.rules.specs.WellFormed.{statement_ok}
use Rattle.rules.specs.Rows.{statement_at}
use Rattle.wellformed.proofs.Along.{Passing}
use Rattle.wellformed.proofs.Marked.{Marked}
use Rattle.wellformed.proofs.statement.statements_in.Given as goal

abbrev pub invariant-loop-i : goal.invariant-loop-i
invariant-loop-i g l =
    let S = g.T.Table.words l.lent.statements in
    Passing (λ k. statement_ok l.lent.text.now S (g.T.Table.words l.lent.operands) (g.T.Table.words l.lent.attributes) l.fn.s.first k (statement_at S k)) l.fn.s.first l.i l.fn.s.past
    × ((length l.seen ≡ length l.initial.seen) × Marked l.lent.text.now S l.seen l.fn.s.first l.i)
