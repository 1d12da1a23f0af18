-- `slot` meets its contract.
-- Assumes nothing.
use mathlib.Core.Path.{refl, sym, ap, ◌∙◌}
use Prim.Native.Nat.{ℕ, ◌%◌}
use native.Mathlib.Nat.{mod-lt}
use native.Mathlib.Omega.{arith}
use borrow.Author.Rules.{rules}
use Rattle.wellformed.specs.Slots.{slot_of}
use Rattle.wellformed.proofs.Marked.{number_more, number-end}
use Rattle.wellformed.proofs.seen.slot.Goals as goal

pub loop-letter-init : goal.loop-letter-init
loop-letter-init c = (omega arith, refl)

pub loop-letter-preserved : goal.loop-letter-preserved
loop-letter-preserved c =
    let e = number_more c.loop-letter.h c.args.name.now c.loop-letter.letter-index (search rules) in
    (mod-lt _ (omega arith), c.loop-letter.invariant.1 ∙ e)

pub returns : goal.returns
unfolding slot_of
returns c =
    let e = number-end c.loop-letter.h c.args.name.now c.loop-letter.letter-index (search rules) in
    (ap (λ (x : ℕ). x % c.args.n) (sym (c.loop-letter.invariant.1 ∙ e)), mod-lt _ (omega arith))
