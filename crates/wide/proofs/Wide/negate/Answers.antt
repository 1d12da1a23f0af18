use mathlib.Core.Path.{◌∙◌}
use Prim.Native.Nat.{◌^◌}
use native.Mathlib.Omega.{arith}
use Rattle.wide.specs.Wide.{bits}
use Rattle.wide.proofs.Halves.{only-low, some_high, rest-low, rest_high, opposite-zero, opposite_some}
use Rattle.wide.proofs.Wide.negate.Goals as goal

pub returns-then-self-ne0 : goal.returns-then-self-ne0
returns-then-self-ne0 c =
    let s = c.args.self in
    opposite_some (bits s) _ (omega arith) (rest-low (2 ^ 64) s.hi _ s.lo _ (omega arith) (omega arith))

pub returns-then-self-eq0 : goal.returns-then-self-eq0
returns-then-self-eq0 c =
    let s = c.args.self in
    opposite-zero (bits s) (only-low (2 ^ 64) s.lo (omega arith) ∙ omega arith)

pub returns : goal.returns
returns c =
    let s = c.args.self in
    opposite_some (bits s) _
    (some_high (2 ^ 64) s.lo 1 (omega arith) (omega arith))
    (rest_high (2 ^ 64) s.hi _ s.lo (omega arith) (omega arith))
