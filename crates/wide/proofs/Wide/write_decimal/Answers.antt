use mathlib.Core.Path.{sym, ap}
use native.Mathlib.Omega.{arith}
use Rattle.rules.specs.Integers.{decimal}
use Rattle.laws.proofs.Tests.{said}
use Rattle.laws.proofs.Over.{written}
use Rattle.wide.proofs.Short.{low-short}
use Rattle.wide.proofs.Wide.write_decimal.Goals as goal

pub overflow_cast-self : goal.overflow_cast-self
overflow_cast-self c =
    let s = c.args.self in
    let low = low-short s.hi s.lo (said c.is_short.ensures c.if-is_short.true) in
    record { fits = omega (arith, low.1) }

pub write_short-requires : goal.write_short-requires
write_short-requires c =
    let s = c.args.self in
    let low = low-short s.hi s.lo (said c.is_short.ensures c.if-is_short.true) in
    low.1

pub returns-then-is_short : goal.returns-then-is_short
returns-then-is_short c =
    let s = c.args.self in
    let low = low-short s.hi s.lo (said c.is_short.ensures c.if-is_short.true) in
    written (ap decimal (sym low.0)) c.write_short.ensures
