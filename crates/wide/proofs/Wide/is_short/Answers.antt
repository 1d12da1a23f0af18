use mathlib.Core.Path.{sym, ap, ◌∙◌}
use Prim.Native.Nat.{ℕ, ◌^◌}
use native.Mathlib.Omega.{arith}
use lib.Dec.{ltb}
use borrow.Author.Tests.{le-ltb, ne_eqb}
use Rattle.wide.specs.Wide.{bits}
use Rattle.wide.proofs.Halves.{only-low, some_high}
use Rattle.wide.proofs.Wide.is_short.Goals as goal

pub returns-then-self-eq0 : goal.returns-then-self-eq0
returns-then-self-eq0 c =
    let s = c.args.self in
    ap (λ (x : ℕ). ltb x 100) (sym (only-low (2 ^ 64) s.lo (omega arith)))

pub returns-else-self-eq0 : goal.returns-else-self-eq0
returns-else-self-eq0 c =
    let s = c.args.self in
    ne_eqb _ _ c.if-self-eq0.false ∙ sym (le-ltb (bits s) 100 (some_high (2 ^ 64) s.lo 100 c.if-self-eq0.false (omega arith)))
