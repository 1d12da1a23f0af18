use Prim.Native.Nat.{◌^◌}
use mathlib.Core.Path.{refl}
use native.Mathlib.Omega.{arith}
use Rattle.wide.proofs.Halves.{flip_up, flip_down}
use Rattle.wide.proofs.Wide.flipped.Goals as goal

pub returns-then-self-lt-SIGN : goal.returns-then-self-lt-SIGN
returns-then-self-lt-SIGN c =
    let s = c.args.self in
    flip_up (2 ^ 64) (2 ^ 63) s.hi s.lo refl (omega arith) (omega arith)

pub returns : goal.returns
returns c =
    let s = c.args.self in
    flip_down (2 ^ 64) (2 ^ 63) s.hi s.lo refl (omega arith) (omega arith) (omega arith)
