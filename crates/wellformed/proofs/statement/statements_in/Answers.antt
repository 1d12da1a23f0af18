-- `statements_in` meets its contract.
-- Assumes nothing.
use mathlib.Core.Path.{◌≡◌, refl, ap, ◌∙◌}
use native.Mathlib.Omega.{arith}
use lib.ListN.{length, length-set}
use Rattle.rules.specs.WellFormed.{statement_ok, statements_ok}
use Rattle.rules.specs.Rows.{name_at}
use Rattle.laws.proofs.Tests.{said_not, said_not_not}
use Rattle.wellformed.specs.Slots.{slot_of}
use Rattle.wellformed.proofs.Along.{passing_begin, passing_more, passing_stop, passing_end}
use Rattle.wellformed.proofs.Marked.{slot_at, none_marked, marked_more, unmarked_new}
use Rattle.wellformed.proofs.statement.statements_in.Goals as goal

pub loop-i-init : goal.loop-i-init
loop-i-init g c = (passing_begin, (refl, none_marked))

pub slot-k-requires : goal.slot-k-requires
slot-k-requires g c = omega (arith, c.loop-i.invariant.1.0, c.requires)

pub bounds-seen-k : goal.bounds-seen-k
bounds-seen-k g c = c.slot-k.ensures.1

pub statement_ok-requires : goal.statement_ok-requires
statement_ok-requires g c =
    let l = c.args.lent.now in
    let row-slot : c.slot-k.result ≡ slot_of (length c.loop-i.seen) (name_at l.text.now (g.T.Table.words l.statements) c.loop-i.i) = slot_at _ _ _ _ c.statement_at-r.ensures c.letters.ensures c.slot-k.ensures.0 in
    unmarked_new c.loop-i.invariant.1.1 row-slot

pub returns-then-not-statement_ok : goal.returns-then-not-statement_ok
unfolding statements_ok
returns-then-not-statement_ok g c =
    let e = c.statement_ok.ensures ∙ ap (statement_ok _ _ _ _ _ _) c.statement_at-r.ensures in
    let inv = c.loop-i.invariant in
    passing_stop inv.0 c.loop-i-test.true (said_not e c.if-not-statement_ok.true-raw)

pub bounds-seen-k-in-loop-i : goal.bounds-seen-k-in-loop-i
bounds-seen-k-in-loop-i g c = c.slot-k.ensures.1

pub loop-i-preserved : goal.loop-i-preserved
loop-i-preserved g c =
    let l = c.args.lent.now in
    let row-slot : c.slot-k.result ≡ slot_of (length c.loop-i.seen) (name_at l.text.now (g.T.Table.words l.statements) c.loop-i.i) = slot_at _ _ _ _ c.statement_at-r.ensures c.letters.ensures c.slot-k.ensures.0 in
    let e = c.statement_ok.ensures ∙ ap (statement_ok _ _ _ _ _ _) c.statement_at-r.ensures in
    let inv = c.loop-i.invariant in (
      passing_more inv.0 c.loop-i-test.true (said_not_not e c.if-not-statement_ok.false-raw),
      (simp length-set inv.1.0, marked_more inv.1.1 row-slot c.slot-k.ensures.1),
    )

pub returns : goal.returns
unfolding statements_ok
returns g c = passing_end c.loop-i.invariant.0 c.loop-i-test.false
