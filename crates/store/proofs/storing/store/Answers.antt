-- `store::storing::store` meets its contract.
-- Assumes nothing.
use Prim.Native.Nat.{◌*◌}
use mathlib.Core.Path.{sym}
use native.Mathlib.Omega.{arith}
use lib.Seq.{length-take-le}
use Rattle.rules.specs.Rows.{item_length, statement_length, operand_length, attribute_length}
use Rattle.rules.specs.WellFormed.{counts}
use Rattle.laws.proofs.Tests.{said_not, said_not_not}
use Rattle.rules.specs.Stored.{stored}
use Rattle.store.proofs.Pieces.{ill_formed, well, Sized, sized, counted-few}
use Rattle.store.proofs.storing.store.Goals as goal

pub returns-then-not-well_formed : goal.returns-then-not-well_formed
returns-then-not-well_formed c = ill_formed _ _ _ _ _ _ _ (said_not c.well_formed-2.ensures c.if-not-well_formed.true-raw)

pub overflow_mul-i : goal.overflow_mul-i
overflow_mul-i c =
    let sized-here : let a = c.args in
    Sized a.text.now a.items.now a.statements.now a.operands.now a.attributes.now (counts a.item_count a.statement_count a.operand_count a.attribute_count) = sized _ _ _ _ _ _ (said_not_not c.well_formed-2.ensures c.if-not-well_formed.false-raw) in
    omega (arith, sized-here.small.items)

pub overflow_mul-s : goal.overflow_mul-s
overflow_mul-s c =
    let sized-here : let a = c.args in
    Sized a.text.now a.items.now a.statements.now a.operands.now a.attributes.now (counts a.item_count a.statement_count a.operand_count a.attribute_count) = sized _ _ _ _ _ _ (said_not_not c.well_formed-2.ensures c.if-not-well_formed.false-raw) in
    omega (arith, sized-here.small.statements)

pub overflow_mul-o : goal.overflow_mul-o
overflow_mul-o c =
    let sized-here : let a = c.args in
    Sized a.text.now a.items.now a.statements.now a.operands.now a.attributes.now (counts a.item_count a.statement_count a.operand_count a.attribute_count) = sized _ _ _ _ _ _ (said_not_not c.well_formed-2.ensures c.if-not-well_formed.false-raw) in
    omega (arith, sized-here.small.operands)

pub overflow_mul-a : goal.overflow_mul-a
overflow_mul-a c =
    let sized-here : let a = c.args in
    Sized a.text.now a.items.now a.statements.now a.operands.now a.attributes.now (counts a.item_count a.statement_count a.operand_count a.attribute_count) = sized _ _ _ _ _ _ (said_not_not c.well_formed-2.ensures c.if-not-well_formed.false-raw) in
    omega (arith, sized-here.small.attributes)

pub slice_bounds-file-end : goal.slice_bounds-file-end
slice_bounds-file-end c =
    let sized-here : let a = c.args in
    Sized a.text.now a.items.now a.statements.now a.operands.now a.attributes.now (counts a.item_count a.statement_count a.operand_count a.attribute_count) = sized _ _ _ _ _ _ (said_not_not c.well_formed-2.ensures c.if-not-well_formed.false-raw) in
    sym (length-take-le (c.args.item_count * item_length) c.args.items.now sized-here.items)

pub slice_bounds-file-end-2 : goal.slice_bounds-file-end-2
slice_bounds-file-end-2 c =
    let sized-here : let a = c.args in
    Sized a.text.now a.items.now a.statements.now a.operands.now a.attributes.now (counts a.item_count a.statement_count a.operand_count a.attribute_count) = sized _ _ _ _ _ _ (said_not_not c.well_formed-2.ensures c.if-not-well_formed.false-raw) in
    sym (length-take-le (c.args.statement_count * statement_length) c.args.statements.now sized-here.statements)

pub slice_bounds-file-end-3 : goal.slice_bounds-file-end-3
slice_bounds-file-end-3 c =
    let sized-here : let a = c.args in
    Sized a.text.now a.items.now a.statements.now a.operands.now a.attributes.now (counts a.item_count a.statement_count a.operand_count a.attribute_count) = sized _ _ _ _ _ _ (said_not_not c.well_formed-2.ensures c.if-not-well_formed.false-raw) in
    sym (length-take-le (c.args.operand_count * operand_length) c.args.operands.now sized-here.operands)

pub slice_bounds-file-end-4 : goal.slice_bounds-file-end-4
slice_bounds-file-end-4 c =
    let sized-here : let a = c.args in
    Sized a.text.now a.items.now a.statements.now a.operands.now a.attributes.now (counts a.item_count a.statement_count a.operand_count a.attribute_count) = sized _ _ _ _ _ _ (said_not_not c.well_formed-2.ensures c.if-not-well_formed.false-raw) in
    sym (length-take-le (c.args.attribute_count * attribute_length) c.args.attributes.now sized-here.attributes)

pub invariant_of-file : goal.invariant_of-file
invariant_of-file c =
    let sized-here : let a = c.args in
    Sized a.text.now a.items.now a.statements.now a.operands.now a.attributes.now (counts a.item_count a.statement_count a.operand_count a.attribute_count) = sized _ _ _ _ _ _ (said_not_not c.well_formed-2.ensures c.if-not-well_formed.false-raw) in
    record { letters = sized-here.letters; few = counted-few _ _ _ _ _ _ sized-here }

pub returns : goal.returns
unfolding stored
returns c = well _ _ _ _ _ _ _ (said_not_not c.well_formed-2.ensures c.if-not-well_formed.false-raw) c.store_file.ensures
