-- `listing::stack::push_references` meets its contract.
-- Assumes nothing.
use mathlib.Core.Path.{◌≡◌}
use mathlib.Core.Bool.{true}
use Prim.Native.Nat.{◌+◌, ◌*◌, ◌<◌}
use native.Mathlib.Omega.{arith}
use lib.ListN.{length, get_or}
use Rattle.rules.specs.Rows.{statement_length, statement_at}
use Rattle.rules.specs.WellFormed.{has_block}
use Rattle.laws.proofs.Tests.{said}
use Rattle.listing.specs.References.{size}
use Rattle.listing.proofs.Pushes.{named-below, block-below, pushed_block, pushed_named}
use Rattle.listing.proofs.stack.push_references.Goals as goal

pub push_operands-t-requires : goal.push_operands-t-requires
unfolding statement_at size
push_operands-t-requires c =
    record { operands_inside = c.requires.operands_inside; room = omega arith; small_rows = named-below _ _ c.args.row 65536 c.requires.small_rows }

pub overflow_mul-work : goal.overflow_mul-work
overflow_mul-work c =
    let told : has_block (get_or c.args.statements.now (c.args.row * statement_length) 0) ≡ true = said c.has_block.ensures c.if-has_block.true in
    omega (arith, block-below _ _ c.args.row 65536 c.requires.small_rows told)

pub overflow_add-work-then-has_block : goal.overflow_add-work-then-has_block
unfolding statement_at size
overflow_add-work-then-has_block c =
    let fits : c.args.base + c.push_operands-t.result < length c.push_operands-t.new.work = omega (arith, c.push_operands-t.ensures.fits, c.push_operands-t.auto.work, c.requires.room) in
    omega (arith, fits)

pub offset_bounds-work-base : goal.offset_bounds-work-base
unfolding statement_at size
offset_bounds-work-base c =
    let fits : c.args.base + c.push_operands-t.result < length c.push_operands-t.new.work = omega (arith, c.push_operands-t.ensures.fits, c.push_operands-t.auto.work, c.requires.room) in
    omega (arith, fits)

pub bounds-work-base : goal.bounds-work-base
unfolding statement_at size
bounds-work-base c =
    let fits : c.args.base + c.push_operands-t.result < length c.push_operands-t.new.work = omega (arith, c.push_operands-t.ensures.fits, c.push_operands-t.auto.work, c.requires.room) in
    omega (arith, fits)

pub overflow_add-result : goal.overflow_add-result
unfolding statement_at size
overflow_add-result c =
    let fits : c.args.base + c.push_operands-t.result < length c.push_operands-t.new.work = omega (arith, c.push_operands-t.ensures.fits, c.push_operands-t.auto.work, c.requires.room) in
    omega (arith, fits)

pub returns-then-has_block : goal.returns-then-has_block
unfolding statement_at size
returns-then-has_block c =
    let told : has_block (get_or c.args.statements.now (c.args.row * statement_length) 0) ≡ true = said c.has_block.ensures c.if-has_block.true in
    let fits : c.args.base + c.push_operands-t.result < length c.push_operands-t.new.work = omega (arith, c.push_operands-t.ensures.fits, c.push_operands-t.auto.work, c.requires.room) in
    pushed_block _ _ c.args.row _ _ _ _ _ c.push_operands-t.ensures told (omega (arith, fits))

pub returns : goal.returns
unfolding statement_at size
returns c =
    pushed_named _ _ c.args.row _ _ _ _ _ c.push_operands-t.ensures (said c.has_block.ensures c.if-has_block.false)
