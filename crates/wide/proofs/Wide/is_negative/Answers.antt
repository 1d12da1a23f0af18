use Prim.Native.Nat.{◌^◌}
use native.Mathlib.Omega.{arith}
use Rattle.wide.proofs.Halves.{leb_high}
use Rattle.wide.proofs.Wide.is_negative.Goals as goal

pub returns : goal.returns
returns c = let s = c.args.self in leb_high (2 ^ 64) (2 ^ 63) s.hi s.lo (omega arith)
