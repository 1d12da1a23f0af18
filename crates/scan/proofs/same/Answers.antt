use mathlib.Core.Path.{sym, ◌∙◌}
use lib.Dec.{eqb}
use lib.ListN.{get_or}
use Rattle.laws.proofs.Runs.{same_more, same_end, same_long}
use Rattle.laws.proofs.Tests.{tests, and_true, and_false}
use borrow.Author.Rules.{rules}
use Rattle.scan.proofs.same.Goals as goal

pub returns-then-a-b : goal.returns-then-a-b
returns-then-a-b c = sym (same_long c.args.a.now c.args.b.now c.if-a-b.true)

pub returns-then-a-i : goal.returns-then-a-i
returns-then-a-i c =
    let a = c.args.a.now in
    let b = c.args.b.now in
    let i = c.loop-i.i in
    sym (c.loop-i.invariant.1 ∙ same_more a b i (search rules) (search rules) ∙ and_false (eqb (get_or a i 0) (get_or b i 0)) _ (search tests))

pub loop-i-preserved : goal.loop-i-preserved
loop-i-preserved c =
    let a = c.args.a.now in
    let b = c.args.b.now in
    let i = c.loop-i.i in
    (search rules, c.loop-i.invariant.1 ∙ same_more a b i (search rules) (search rules) ∙ and_true (eqb (get_or a i 0) (get_or b i 0)) _ (search tests))

pub returns : goal.returns
returns c =
    sym (c.loop-i.invariant.1 ∙ same_end c.args.a.now c.args.b.now c.loop-i.i (search rules) (search rules))
