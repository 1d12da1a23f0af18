use mathlib.Core.Path.{sym}
use Prim.Native.Nat.{◌^◌, ◌<◌}
use native.Mathlib.Omega.{arith}
use borrow.Author.Tests.{le-ltb, lt-ltb}
use Rattle.wide.specs.Wide.{bits}
use Rattle.wide.proofs.Halves.{lt_high, ltb-low}
use Rattle.wide.proofs.Wide.under.Goals as goal

pub returns-then-self-w : goal.returns-then-self-w
returns-then-self-w c =
    let at = c.args in
    sym (lt-ltb (bits at.self) (bits at.w) (lt_high (2 ^ 64) at.self.lo at.w.lo c.if-self-w.true (omega arith)))

pub returns-then-w-self : goal.returns-then-w-self
returns-then-w-self c =
    let s = c.args.self in
    let w = c.args.w in
    let k : bits w < bits s = lt_high (2 ^ 64) w.lo s.lo c.if-w-self.true (omega arith) in
    sym (le-ltb (bits s) (bits w) (omega (arith, k)))

pub returns : goal.returns
returns c =
    let at = c.args in
    ltb-low (2 ^ 64) at.self.lo at.w.lo (omega arith)
