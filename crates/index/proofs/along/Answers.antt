-- `along` meets its contract. While it looks at candidates, what it answers is what a search from here answers;
-- while it compares letters, from the last to the first, those from here on are the same.
-- Assumes nothing.
use Prim.Native.Nat.{◌+◌, ◌-◌}
use mathlib.Core.Bool.{true}
use native.Mathlib.Omega.{arith}
use mathlib.Core.Path.{◌≡◌, refl, sym, ◌∙◌}
use lib.Dec.{eqb}
use lib.ListN.{length, drop, get_or}
use borrow.Author.Rules.{rules}
use borrow.Author.Tests.{eq-eqb}
use Rattle.rules.specs.Bytes.{same}
use Rattle.laws.proofs.Runs.{same_more, same_end, same_long}
use Rattle.laws.proofs.Tests.{and_true}
use Rattle.index.proofs.Search.{compared, differ, found_here, not_here, none_left}
use Rattle.index.proofs.along.Goals as goal

pub candidates-init : goal.candidates-init
candidates-init c = refl

pub candidates-preserved-then-other-name : goal.candidates-preserved-then-other-name
candidates-preserved-then-other-name c =
    c.candidates.invariant
    ∙ not_here _ _ _ _ _ (search rules)
    (compared _ _ _ _ c.name_at-span.ensures c.letters-other.ensures ∙ same_long _ _ c.if-other-name.true)

pub loop-j-init : goal.loop-j-init
loop-j-init c =
    let a = c.letters-other.result.now in
    let b = c.args.name.now in
    (search rules, same_end a b (length b) (omega arith) (omega arith))

pub candidates-preserved : goal.candidates-preserved
candidates-preserved c =
    let a = c.letters-other.result.now in
    let b = c.args.name.now in
    c.candidates.invariant
    ∙ not_here _ _ _ _ _ (search rules)
    (compared _ _ _ _ c.name_at-span.ensures c.letters-other.ensures ∙ differ a b (c.loop-j.j - 1) c.if-other-j.true)

pub loop-j-preserved : goal.loop-j-preserved
loop-j-preserved c =
    let a = c.letters-other.result.now in
    let b = c.args.name.now in
    let j = c.loop-j.j in
    let e : j - 1 + 1 ≡ j = omega arith in
    let k : same (drop (j - 1 + 1) a) (drop (j - 1 + 1) b) ≡ true = rw e c.loop-j.invariant.1 in
    (omega arith, same_more a b (j - 1) (omega arith) (omega arith) ∙ and_true (eqb (get_or a (j - 1) 0) (get_or b (j - 1) 0)) _ (eq-eqb _ _ c.if-other-j.false) ∙ k)

pub returns-in-candidates : goal.returns-in-candidates
returns-in-candidates c =
    let z : c.loop-j.j ≡ 0 = omega arith in
    let a = c.letters-other.result.now in
    let b = c.args.name.now in
    let e : same a b ≡ true = rw z at c.loop-j.invariant.1 in
    sym (c.candidates.invariant ∙ found_here _ _ _ _ _ (search rules) (compared _ _ _ _ c.name_at-span.ensures c.letters-other.ensures ∙ e))

pub returns : goal.returns
returns c = sym (c.candidates.invariant ∙ none_left _ _ _ _ _ (search rules))
