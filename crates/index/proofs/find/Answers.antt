-- `find` meets its contract.
-- Assumes nothing.
use Prim.Native.Nat.{◌<◌}
use mathlib.Core.Path.{◌≡◌, sym, ◌∙◌}
use native.Mathlib.Omega.{arith}
use Rattle.index.specs.Linked.{held}
use Rattle.index.proofs.Search.{found_first, missed_first}
use Rattle.index.proofs.find.Goals as goal

pub returns-in-Some : goal.returns-in-Some
returns-in-Some c h =
    let n = c.near-from.ensures in
    let l = h.low in
    let w = h.within in
    sym (found_first _ _ _ (omega arith) (omega arith) _ (sym c.along.ensures ∙ c.in-Some.is))

pub returns-in-None : goal.returns-in-None
returns-in-None c h =
    let n = c.near-from.ensures in
    let l = h.low in
    let w = h.within in
    let from = c.near-from.result in
    let held_all : c.args.first < from → from ≡ held c.args.index.now = λ k. omega arith in
    c.among_held.ensures (λ k. rw (held_all k) h.linked) ∙ sym (missed_first _ _ _ (omega arith) (omega arith) (sym c.along.ensures ∙ c.in-None.is))
