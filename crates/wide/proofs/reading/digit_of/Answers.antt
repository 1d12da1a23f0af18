use native.Mathlib.Omega.{arith}
use Rattle.wide.proofs.Unsigned.{digit-range}
use Rattle.wide.proofs.reading.digit_of.Goals as goal

pub overflow_sub-result : goal.overflow_sub-result
overflow_sub-result c = omega (arith, digit-range c.args.b c.requires)

pub returns : goal.returns
returns c = omega (arith, digit-range c.args.b c.requires)
