-- `prints::printing::print_items` meets its contract.
-- Assumes nothing.
use mathlib.Core.Path.{◌≡◌, refl, ap, ◌∙◌}
use native.Mathlib.Omega.{arith}
use lib.ListN.{length}
use Rattle.prints.proofs.Prints as prints
use Rattle.prints.proofs.printing.print_items.Goals as goal

pub measure-bytes-requires : goal.measure-bytes-requires
measure-bytes-requires c =
    let args = c.args in
    let pre = c.requires in
    let cleared = c.clear in
    let zero = prints.cleared (length args.work.now) args.work.now refl cleared.ensures in
    let none = prints.no_marks (length args.work.now) zero args.rows in
    record { prepared = pre.prepared cleared.new.table cleared.auto.table none; unmarked = none; owned = pre.owned }

pub returns-then-output-bytes : goal.returns-then-output-bytes
returns-then-output-bytes c =
    let args = c.args in
    let measured = c.measure-bytes in
    let long : length measured.new.work ≡ length args.work.now = measured.auto.work ∙ c.clear.auto.table in
    let zero = prints.cleared (length args.work.now) measured.new.work long c.clear-then-output-bytes.ensures in
    prints.more_bytes_lem _ _ _ measured.ensures.length_of zero (omega (arith, ap length measured.ensures.same)) measured.ensures.same

pub returns : goal.returns
returns c =
    let args = c.args in
    let measured = c.measure-bytes in
    let put = c.put_items in
    let long : length put.new.work ≡ length args.work.now = put.auto.work ∙ measured.auto.work ∙ c.clear.auto.table in
    let zero = prints.cleared (length args.work.now) put.new.work long c.clear-2.ensures in
    prints.all_bytes _ _ _ measured.ensures.length_of zero (λ h. omega (arith, ap length measured.ensures.same)) measured.ensures.same put.ensures.wrote
