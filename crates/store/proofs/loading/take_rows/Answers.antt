-- `store::loading::take_rows` meets its contract.
-- Assumes nothing.
use mathlib.Core.Path.{sym, ap, ◌∙◌}
use mathlib.Core.List.{List, ◌++◌}
use Prim.Native.Nat.{ℕ, ◌<◌}
use native.Mathlib.Omega.{arith}
use native.Mathlib.Numerals.{add-one}
use lib.ListN.{length, take, drop, set}
use Rattle.laws.proofs.Over.{over_byte}
use Rattle.rules.specs.Stored.{in_words}
use Rattle.packed.proofs.Words.{words_length}
use Rattle.store.proofs.Parts.{taken}
use Rattle.store.proofs.loading.take_rows.Goals as goal

pub bounds-table-i : goal.bounds-table-i
bounds-table-i c = omega (arith, c.requires, words_length c.args.bytes.now)

pub loop-i-preserved : goal.loop-i-preserved
loop-i-preserved c =
    let v = c.loop-i.invariant in
    let i = c.loop-i.i in
    let b = c.args.bytes.now in
    let t = c.args.table.now in
    let far : i < length (in_words b) = omega (arith, words_length b) in
    ap (λ (l : List ℕ). set l i c.word.result) v
    ∙ ap (λ (x : ℕ). set (take i (in_words b) ++ drop i t) i x) c.word.ensures
    ∙ over_byte (in_words b) t i far (omega (arith, c.requires, words_length b))
    ∙ ap (λ (k : ℕ). take k (in_words b) ++ drop k t) (sym (add-one i))

pub returns : goal.returns
returns c =
    c.clear.ensures ∙ taken (in_words c.args.bytes.now) c.args.table.now c.loop-i.table c.loop-i.i c.count-n.result c.count-n.ensures (omega arith) c.loop-i.invariant c.loop-i.auto.table
