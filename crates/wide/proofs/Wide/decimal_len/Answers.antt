use mathlib.Core.Path.{ap, ◌∙◌}
use lib.ListN.{length}
use Rattle.laws.proofs.Tests.{said}
use Rattle.wide.specs.Wide.{bits}
use Rattle.wide.proofs.Decimals.{sign_count, sign_fits, decimal_plain}
use Rattle.wide.proofs.Wide.decimal_len.Goals as goal

pub overflow_add-result : goal.overflow_add-result
overflow_add-result c = record { fits = sign_fits c.digits_len.result (bits c.negate.result) c.digits_len.ensures }

pub returns-then-is_negative : goal.returns-then-is_negative
returns-then-is_negative c =
    let sign = said c.is_negative.ensures c.if-is_negative.true in
    sign_count (bits c.args.self) sign c.negate.ensures c.digits_len.ensures

pub returns : goal.returns
returns c =
    let none = said c.is_negative.ensures c.if-is_negative.false in
    c.digits_len-2.ensures ∙ ap length (decimal_plain (bits c.args.self) none)
