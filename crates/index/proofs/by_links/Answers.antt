-- `by_links` meets its contract. While it looks at candidates, what is to be found is what a search from here finds, and the next candidate has the name's slot;
-- while it compares letters, from the last to the first, those from here on are the same.
-- Assumes nothing.
use Prim.Native.Nat.{◌+◌, ◌-◌}
use mathlib.Core.Bool.{true}
use native.Mathlib.Omega.{arith}
use mathlib.Core.Path.{◌≡◌, ◌∙◌}
use lib.Dec.{eqb}
use lib.ListN.{length, drop, get_or}
use borrow.Author.Rules.{rules}
use borrow.Author.Tests.{eq-eqb}
use Rattle.rules.specs.Bytes.{same}
use Rattle.laws.proofs.Runs.{same_more, same_end, same_long}
use Rattle.laws.proofs.Tests.{and_true}
use Rattle.index.proofs.Search.{compared, differ, walk_begins, link_falls, walk_found, walk_on, walk_ends}
use Rattle.index.proofs.by_links.Goals as goal

pub candidates-init : goal.candidates-init
candidates-init c past low e d = walk_begins d (omega arith) e c.entry-i.ensures

pub returns-then-row-next : goal.returns-then-row-next
returns-then-row-next c past low e d =
    let l = link_falls d (omega arith) (c.candidates.invariant past low e d) (search rules) in
    let n = c.link-next.ensures in
    absurd (omega arith)

pub candidates-preserved-then-linked-name : goal.candidates-preserved-then-linked-name
candidates-preserved-then-linked-name c past low e d =
    walk_on d (omega arith) (c.candidates.invariant past low e d) (search rules) c.link-next.ensures
    (compared _ _ _ _ c.name_at-span.ensures c.letters-linked.ensures ∙ same_long _ _ c.if-linked-name.true)

pub loop-j-init : goal.loop-j-init
loop-j-init c =
    let a = c.letters-linked.result.now in
    let b = c.args.name.now in
    (search rules, same_end a b (length b) (omega arith) (omega arith))

pub candidates-preserved : goal.candidates-preserved
candidates-preserved c past low e d =
    walk_on d (omega arith) (c.candidates.invariant past low e d) (search rules) c.link-next.ensures
    (compared _ _ _ _ c.name_at-span.ensures c.letters-linked.ensures ∙ differ _ _ (c.loop-j.j - 1) c.if-linked-j.true)

pub loop-j-preserved : goal.loop-j-preserved
loop-j-preserved c =
    let a = c.letters-linked.result.now in
    let b = c.args.name.now in
    let j = c.loop-j.j in
    let e : j - 1 + 1 ≡ j = omega arith in
    let k : same (drop (j - 1 + 1) a) (drop (j - 1 + 1) b) ≡ true = rw e c.loop-j.invariant.1 in
    (omega arith, same_more a b (j - 1) (omega arith) (omega arith) ∙ and_true (eqb (get_or a (j - 1) 0) (get_or b (j - 1) 0)) _ (eq-eqb _ _ c.if-linked-j.false) ∙ k)

pub returns-in-candidates : goal.returns-in-candidates
returns-in-candidates c past low e d =
    let z : c.loop-j.j ≡ 0 = omega arith in
    let a = c.letters-linked.result.now in
    let b = c.args.name.now in
    let s : same a b ≡ true = rw z at c.loop-j.invariant.1 in
    walk_found d (omega arith) (c.candidates.invariant past low e d) (search rules)
    (compared _ _ _ _ c.name_at-span.ensures c.letters-linked.ensures ∙ s)

pub returns : goal.returns
returns c past low e d = walk_ends (c.candidates.invariant past low e d) (search rules)
