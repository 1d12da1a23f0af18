-- `peldarox_name` reports where the part lies that is the row's name; a part ends no earlier than it begins.
-- Assumes nothing.
use Rattle.std.proofs.Common.{rules, arith}
use Rattle.rules.specs.Prints.{name_report}
use Rattle.prints.proofs.Names.{part_lies}
use Rattle.peldarox_c.proofs.exports.peldarox_name.Goals as goal

pub overflow_sub-report : goal.overflow_sub-report
overflow_sub-report c =
    let lies = part_lies _ _ _ _ _ _ _ c.name_part-part.ensures in
    omega (arith, lies.forth, lies.inside)

pub returns : goal.returns
unfolding name_report
returns c = search rules
