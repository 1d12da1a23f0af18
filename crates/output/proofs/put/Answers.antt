-- `put` meets its contract: i bytes of the word stand over the front of the output, and the rest is as it was.
-- Assumes nothing.
use mathlib.Core.Path.{◌≡◌, refl, sym, ap, ◌∙◌}
use mathlib.Core.List.{List, ◌++◌}
use Prim.Native.Nat.{ℕ}
use native.Mathlib.Numerals.{add-one}
use native.Mathlib.Omega.{arith}
use lib.ListN.{length, take, drop, get_or, set, length-set}
use lib.Seq.{take-length}
use Rattle.laws.proofs.Over.{over_byte}
use Rattle.output.proofs.put.Goals as goal

pub returns-then-out-n : goal.returns-then-out-n
returns-then-out-n c = record { count = refl; bytes = λ h. absurd (omega (arith, h, c.if-out-n.true)); long = refl }

pub loop-i-init : goal.loop-i-init
loop-i-init c = (omega arith, (refl, (refl, c.if-out-n.false)))

pub loop-i-preserved : goal.loop-i-preserved
loop-i-preserved c =
    let v = c.loop-i.invariant in
    let i = c.loop-i.i in
    let s = c.args.word.now in
    let o = c.args.out.now in
    (omega arith, (ap (λ (l : List ℕ). set l i (get_or s i 0)) v.1.0 ∙ over_byte s o i (omega arith) (omega (arith, v.1.1.1)) ∙ ap (λ (k : ℕ). take k s ++ drop k o) (sym (add-one i)), (simp length-set v.1.1.0, v.1.1.1)))

pub returns : goal.returns
returns c =
    let v = c.loop-i.invariant in
    let i = c.loop-i.i in
    let s = c.args.word.now in
    let o = c.args.out.now in
    let e : i ≡ length s = omega (arith, v.0) in
    record { count = refl; bytes = λ h. v.1.0 ∙ ap (λ (k : ℕ). take k s ++ drop k o) e ∙ ap (λ (l : List ℕ). l ++ drop (length s) o) (take-length s); long = v.1.1.0 }
