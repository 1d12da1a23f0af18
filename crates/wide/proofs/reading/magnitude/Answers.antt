use mathlib.Core.Path.{ap, ◌∙◌}
use Prim.Native.Nat.{◌^◌}
use borrow.Author.Rules.{rules}
use Rattle.laws.proofs.Tests.{said_not, said_not_not}
use Rattle.wide.specs.Wide.{bits, as_read}
use Rattle.wide.proofs.Unsigned.{bad_read, over_read}
use Rattle.wide.proofs.reading.magnitude.Goals as goal

pub returns-then-not-is_digit : goal.returns-then-not-is_digit
returns-then-not-is_digit c =
    let l = c.loop-b in
    let other = said_not c.is_digit.ensures (search rules) in
    bad_read (2 ^ 128) c.args.s.now (search rules) l.b-index (bits l.m) l.invariant.0 (search rules) other

pub returns-in_err-m : goal.returns-in_err-m
returns-in_err-m c =
    let l = c.loop-b in
    let one = said_not_not c.is_digit.ensures (search rules) in
    ap as_read c.from_residual.ensures
    ∙ over_read (2 ^ 128) c.args.s.now (search rules) l.b-index (bits l.m) l.invariant.0 (search rules) one c.digit_of.ensures.0 c.in_err-m.ensures
